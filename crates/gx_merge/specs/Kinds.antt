-- Which kinds a merge takes, and which kind it gives.
use Rattle.std.specs.Prelude.{Bool, true, false}
use Rattle.gx_merge.specs.declared.merge_kind.MergeKind.{MergeKind}
use Rattle.gx_merge.specs.declared.merge_kind.MergeKind.TheVariants as merge
use Rattle.gx_rows.specs.declared.value.ValueKind.{ValueKind}
use Rattle.gx_rows.specs.declared.value.ValueKind.TheVariants as kind

-- the merge takes values of this kind
abbrev pub takes_kind : MergeKind → ValueKind → Bool
takes_kind merge.Sum kind.Int = true
takes_kind merge.Sum _ = false
takes_kind merge.Count _ = true
takes_kind merge.Min _ = true
takes_kind merge.Max _ = true
takes_kind merge.All kind.Bool = true
takes_kind merge.All _ = false
takes_kind merge.Any kind.Bool = true
takes_kind merge.Any _ = false
takes_kind merge.Bag kind.Int = true
takes_kind merge.Bag kind.Ids = true
takes_kind merge.Bag _ = false

-- the kind of the merged value of values of this kind
abbrev pub kind_given : MergeKind → ValueKind → ValueKind
kind_given merge.Sum _ = kind.Int
kind_given merge.Count _ = kind.Int
kind_given merge.Min given = given
kind_given merge.Max given = given
kind_given merge.All _ = kind.Bool
kind_given merge.Any _ = kind.Bool
kind_given merge.Bag _ = kind.Ids
