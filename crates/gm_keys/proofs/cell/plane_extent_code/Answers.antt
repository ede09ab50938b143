use Rattle.std.proofs.Common.{ap, sym, subst, ◌∙◌, ◌≤◌, ℕ, [], ◌∷◌, refl, inl, lit<}
use Rattle.gm_base.proofs.Numbers.{two_below}
use Rattle.gm_curve.specs.Xz.{xz_code}
use Rattle.gm_keys.specs.Cell.{xz2_code, longitude_cell, latitude_cell}
use Rattle.gm_keys.proofs.Cells.{same_x, same_y, longitude_rises, latitude_rises, two_at_most}
use Rattle.gm_keys.proofs.cell.plane_extent_code.Goals as goal

pub code-requires : goal.code-requires
code-requires g c =
    let box = c.args.extent in
    let G = g.row.G in
    let x = c.longitude_cell.ensures.cell
    ∙ ap (longitude_cell G) (same_x box.low c.requires.in_world.low) in
    let y = c.latitude_cell.ensures.cell
    ∙ ap (latitude_cell G) (same_y box.low c.requires.in_world.low) in
    let x' = c.longitude_cell-2.ensures.cell
    ∙ ap (longitude_cell G) (same_x box.high c.requires.in_world.high) in
    let y' = c.latitude_cell-2.ensures.cell
    ∙ ap (latitude_cell G) (same_y box.high c.requires.in_world.high) in
    let wide = longitude_rises G box.low box.high c.normal_rises.ensures c.requires.in_world.low
    c.requires.in_world.high c.requires.in_world.wide in
    let tall = latitude_rises G box.low box.high c.normal_rises.ensures c.requires.in_world.low
    c.requires.in_world.high c.requires.in_world.tall in
    let ordered = two_at_most _ _ _ _
    (subst (λ (n : ℕ). n ≤ c.longitude_cell-2.result) (sym x)
    (subst (λ (n : ℕ). longitude_cell G box.low.x ≤ n) (sym x') wide))
    (subst (λ (n : ℕ). n ≤ c.latitude_cell-2.result) (sym y)
    (subst (λ (n : ℕ). latitude_cell G box.low.y ≤ n) (sym y') tall)) in (
      lit< tt,
      (
        inl refl,
        (
          c.requires.some,
          (
            c.requires.few,
            (
              refl,
              (
                refl,
                (
                  ordered,
                  two_below _ _ _ c.longitude_cell-2.ensures.below
                      c.latitude_cell-2.ensures.below,
                ),
              ),
            ),
          ),
        ),
      ),
    )

pub returns : goal.returns
unfolding xz2_code
returns g c =
    let box = c.args.extent in
    let G = g.row.G in
    let x = c.longitude_cell.ensures.cell
    ∙ ap (longitude_cell G) (same_x box.low c.requires.in_world.low) in
    let y = c.latitude_cell.ensures.cell
    ∙ ap (latitude_cell G) (same_y box.low c.requires.in_world.low) in
    let x' = c.longitude_cell-2.ensures.cell
    ∙ ap (longitude_cell G) (same_x box.high c.requires.in_world.high) in
    let y' = c.latitude_cell-2.ensures.cell
    ∙ ap (latitude_cell G) (same_y box.high c.requires.in_world.high) in
    c.code.ensures.code ∙ (λ i. xz_code 2 G (x i ∷ y i ∷ []) (x' i ∷ y' i ∷ []))
