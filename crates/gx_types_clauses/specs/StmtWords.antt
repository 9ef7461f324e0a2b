-- What the words of statements stand for.
use Rattle.gx_rows.specs.declared.cut.Cut.{Cut}
use Rattle.gx_rows.specs.declared.cut.Cut.TheVariants as cut
use Rattle.gx_merge.specs.declared.merge_kind.MergeKind.{MergeKind}
use Rattle.gx_merge.specs.declared.merge_kind.MergeKind.TheVariants as merge
use Rattle.gx_rows.specs.declared.direction.Direction.{Direction}
use Rattle.gx_rows.specs.declared.direction.Direction.TheVariants as direction
use Rattle.gx_syntax_tree.specs.declared.words.ActiveWord.{ActiveWord}
use Rattle.gx_syntax_tree.specs.declared.words.ActiveWord.TheVariants as active_words
use Rattle.gx_syntax_tree.specs.declared.words.CutWord.{CutWord}
use Rattle.gx_syntax_tree.specs.declared.words.CutWord.TheVariants as cut_words
use Rattle.gx_syntax_tree.specs.declared.words.MergeWord.{MergeWord}
use Rattle.gx_syntax_tree.specs.declared.words.MergeWord.TheVariants as merge_words
use Rattle.gx_syntax_tree.specs.declared.words.SideWord.{SideWord}
use Rattle.gx_syntax_tree.specs.declared.words.SideWord.TheVariants as side_words
use Rattle.gx_types_clauses.specs.declared.typed_send.EdgeEnd.{EdgeEnd}
use Rattle.gx_types_clauses.specs.declared.typed_send.EdgeEnd.TheVariants as edge_end

abbrev pub cut_of_written : CutWord → Cut
cut_of_written cut_words.OneD = cut.OneD
cut_of_written cut_words.TwoD = cut.TwoD
cut_of_written cut_words.Random = cut.Random
cut_of_written cut_words.Canonical = cut.Canonical

abbrev pub merge_of_written : MergeWord → MergeKind
merge_of_written merge_words.Sum = merge.Sum
merge_of_written merge_words.Count = merge.Count
merge_of_written merge_words.Min = merge.Min
merge_of_written merge_words.Max = merge.Max
merge_of_written merge_words.All = merge.All
merge_of_written merge_words.Any = merge.Any
merge_of_written merge_words.Bag = merge.Bag

abbrev pub end_of_written : SideWord → EdgeEnd
end_of_written side_words.Src = edge_end.Src
end_of_written side_words.Dst = edge_end.Dst

abbrev pub direction_of_written : ActiveWord → Direction
direction_of_written active_words.Out = direction.Out
direction_of_written active_words.In = direction.In
direction_of_written active_words.Either = direction.Either
direction_of_written active_words.Both = direction.Both
