-- The line of a part of an explained plan.
use Rattle.std.specs.Prelude.{ℕ, List, ◌++◌, codes}
use Rattle.std.specs.Fmt.{decimal}
use Rattle.gm_types.specs.declared.index.IndexKind.{IndexKind}
use Rattle.gm_types.specs.Index.{index_name}
use Rattle.gm_types.specs.Specification.{Specification}

-- `part P INDEX cost C shards S runs R`
abbrev pub part_text : Specification → ℕ → IndexKind → ℕ → ℕ → ℕ → List ℕ
part_text t part_number kind cost shards runs =
    codes "part " ++ (decimal part_number ++ (codes " " ++ (index_name t kind
    ++ (codes " cost " ++ (decimal cost
    ++ (codes " shards " ++ (decimal shards ++ (codes " runs " ++ decimal runs))))))))
