use Rattle.std.proofs.Common.{ap, sym, subst, ◌∙◌, ◌≤◌, ℕ, [], ◌∷◌, refl, inr, lit<, le_refl}
use Rattle.gm_base.proofs.Numbers.{three_below}
use Rattle.gm_curve.specs.Xz.{xz_code}
use Rattle.gm_keys.specs.Cell.{xz3_code, longitude_cell, latitude_cell}
use Rattle.gm_keys.proofs.Cells.{same_x, same_y, longitude_rises, latitude_rises, three_at_most}
use Rattle.gm_keys.proofs.cell.space_extent_code.Goals as goal

pub code-requires : goal.code-requires
code-requires g c =
    let box = c.args.extent in
    let G = g.row.G in
    let x = c.longitude_cell.ensures.cell
    ∙ ap (longitude_cell G) (same_x box.low c.requires.in_world.low) in
    let y = c.latitude_cell.ensures.cell
    ∙ ap (latitude_cell G) (same_y box.low c.requires.in_world.low) in
    let x' = c.longitude_cell-2.ensures.cell
    ∙ ap (longitude_cell G) (same_x box.high c.requires.in_world.high) in
    let y' = c.latitude_cell-2.ensures.cell
    ∙ ap (latitude_cell G) (same_y box.high c.requires.in_world.high) in
    let wide = longitude_rises G box.low box.high c.normal_rises.ensures c.requires.in_world.low
    c.requires.in_world.high c.requires.in_world.wide in
    let tall = latitude_rises G box.low box.high c.normal_rises.ensures c.requires.in_world.low
    c.requires.in_world.high c.requires.in_world.tall in
    let ordered = three_at_most _ _ _ _ _ _
    (subst (λ (n : ℕ). n ≤ c.longitude_cell-2.result) (sym x)
    (subst (λ (n : ℕ). longitude_cell G box.low.x ≤ n) (sym x') wide))
    (subst (λ (n : ℕ). n ≤ c.latitude_cell-2.result) (sym y)
    (subst (λ (n : ℕ). latitude_cell G box.low.y ≤ n) (sym y') tall))
    (le_refl c.time_cell-time.result) in (
      lit< tt,
      (
        inr refl,
        (
          c.requires.some,
          (
            c.requires.few,
            (
              refl,
              (
                refl,
                (
                  ordered,
                  three_below _ _ _ _ c.longitude_cell-2.ensures.below
                      c.latitude_cell-2.ensures.below c.time_cell-time.ensures.below,
                ),
              ),
            ),
          ),
        ),
      ),
    )

pub returns : goal.returns
unfolding xz3_code
returns g c =
    let box = c.args.extent in
    let G = g.row.G in
    let x = c.longitude_cell.ensures.cell
    ∙ ap (longitude_cell G) (same_x box.low c.requires.in_world.low) in
    let y = c.latitude_cell.ensures.cell
    ∙ ap (latitude_cell G) (same_y box.low c.requires.in_world.low) in
    let x' = c.longitude_cell-2.ensures.cell
    ∙ ap (longitude_cell G) (same_x box.high c.requires.in_world.high) in
    let y' = c.latitude_cell-2.ensures.cell
    ∙ ap (latitude_cell G) (same_y box.high c.requires.in_world.high) in
    c.code.ensures.code
    ∙ (λ i. xz_code 3 G (x i ∷ y i ∷ c.time_cell-time.ensures.cell i ∷ [])
    (x' i ∷ y' i ∷ c.time_cell-time.ensures.cell i ∷ []))
