-- Printers of words: each is printed as it was read.
use Rattle.std.proofs.Common.{◌≡◌, ℕ, Bool, true, false, if◌then◌else◌, Option, Some, List, bytes_eq, refl, ap, ◌∙◌}
use Rattle.std.proofs.lemmas.Slice.Eq.{bytes_eq-Decides}
use Rattle.gx_rows.specs.declared.value.ValueKind.{ValueKind}
use Rattle.gx_rows.specs.declared.value.ValueKind.TheVariants as kinds
use Rattle.gx_syntax_tokens.specs.Terminals.{Terminal, word, number, quoted, symbol}
use Rattle.gx_syntax_tokens.specs.SpacedText.{token}
use Rattle.gx_syntax_tree.specs.declared.keyword.CountTarget.{CountTarget}
use Rattle.gx_syntax_tree.specs.declared.keyword.CountTarget.TheVariants as counts
use Rattle.gx_syntax_tree.specs.declared.keyword.PrintTarget.{PrintTarget}
use Rattle.gx_syntax_tree.specs.declared.keyword.PrintTarget.TheVariants as prints
use Rattle.gx_syntax_tree.specs.declared.keyword.StmtKeyword.{StmtKeyword}
use Rattle.gx_syntax_tree.specs.declared.keyword.StmtKeyword.TheVariants as keywords
use Rattle.gx_syntax_tree.specs.declared.words.ActiveWord.{ActiveWord}
use Rattle.gx_syntax_tree.specs.declared.words.ActiveWord.TheVariants as actives
use Rattle.gx_syntax_tree.specs.declared.words.CutWord.{CutWord}
use Rattle.gx_syntax_tree.specs.declared.words.CutWord.TheVariants as cuts
use Rattle.gx_syntax_tree.specs.declared.words.MergeWord.{MergeWord}
use Rattle.gx_syntax_tree.specs.declared.words.MergeWord.TheVariants as merges
use Rattle.gx_syntax_tree.specs.declared.words.NeighbourWord.{NeighbourWord}
use Rattle.gx_syntax_tree.specs.declared.words.NeighbourWord.TheVariants as neighbours
use Rattle.gx_syntax_tree.specs.declared.words.SideWord.{SideWord}
use Rattle.gx_syntax_tree.specs.declared.words.SideWord.TheVariants as sides
use Rattle.gx_syntax_exprs.specs.Combinators.{Satisfies}
use Rattle.gx_syntax_exprs.specs.TokenParsers.{keyword_value}
use Rattle.gx_syntax_stmts.specs.Keywords.{truth_of, kind_of, cut_of, merge_of, side_of, neighbour_of, active_of, print_target_of, count_target_of, action_keyword, table_keyword, message_keyword, join_keyword, map_keyword, graph_keyword, keyword_of}
use Rattle.gx_syntax_show.specs.ListPieces.{word_pieces}
use Rattle.gx_syntax_show.specs.Words.{truth_word, kind_word, cut_word, merge_word, side_word, neighbour_word, active_word, print_target_word, count_target_word, stmt_word}
use Rattle.gx_syntax_show.proofs.ListPrinters.{some_same, absent}
use Rattle.gx_syntax_show.proofs.Printers.{IsPrinter, token_printer}

-- the first row of a table of words, and the rest of it
row : {A : Type 0} (word_of : A → List ℕ) (a : A) {w : List ℕ} {x : A} {rest : Option A} → (rest ≡ Some x → w ≡ word_of x) → (if bytes_eq w (word_of a) then Some a else rest) ≡ Some x → w ≡ word_of x
row {A = A} word_of a {w = w} {x = x} {rest = rest} more = go (bytes_eq w (word_of a)) refl
  where
    go : (b : Bool) → bytes_eq w (word_of a) ≡ b → (if b then Some a else rest) ≡ Some x → w ≡ word_of x
    go true h e = (bytes_eq-Decides w (word_of a)).0 h ∙ ap word_of (some_same e)
    go false h e = more e

pub truth_is : (w : List ℕ) (b : Bool) → truth_of w ≡ Some b → w ≡ truth_word b
truth_is w b = row truth_word true (row truth_word false absent)

pub kind_is : (w : List ℕ) (x : ValueKind) → kind_of w ≡ Some x → w ≡ kind_word x
kind_is w x = row kind_word kinds.Int (row kind_word kinds.Text (row kind_word kinds.Bool (row kind_word kinds.Ids absent)))

pub cut_is : (w : List ℕ) (x : CutWord) → cut_of w ≡ Some x → w ≡ cut_word x
cut_is w x = row cut_word cuts.OneD (row cut_word cuts.TwoD (row cut_word cuts.Random (row cut_word cuts.Canonical absent)))

pub merge_is : (w : List ℕ) (x : MergeWord) → merge_of w ≡ Some x → w ≡ merge_word x
merge_is w x = row merge_word merges.Sum (row merge_word merges.Count (row merge_word merges.Min (row merge_word merges.Max (row merge_word merges.All (row merge_word merges.Any (row merge_word merges.Bag absent))))))

pub side_is : (w : List ℕ) (x : SideWord) → side_of w ≡ Some x → w ≡ side_word x
side_is w x = row side_word sides.Src (row side_word sides.Dst absent)

pub neighbour_is : (w : List ℕ) (x : NeighbourWord) → neighbour_of w ≡ Some x → w ≡ neighbour_word x
neighbour_is w x = row neighbour_word neighbours.In (row neighbour_word neighbours.Out (row neighbour_word neighbours.Either absent))

pub active_is : (w : List ℕ) (x : ActiveWord) → active_of w ≡ Some x → w ≡ active_word x
active_is w x = row active_word actives.Out (row active_word actives.In (row active_word actives.Either (row active_word actives.Both absent)))

pub print_target_is : (w : List ℕ) (x : PrintTarget) → print_target_of w ≡ Some x → w ≡ print_target_word x
print_target_is w x = row print_target_word prints.Vertices (row print_target_word prints.Edges (row print_target_word prints.Triplets (row print_target_word prints.Table absent)))

pub count_target_is : (w : List ℕ) (x : CountTarget) → count_target_of w ≡ Some x → w ≡ count_target_word x
count_target_is w x = row count_target_word counts.Vertices (row count_target_word counts.Edges (row count_target_word counts.Table absent))

-- the keywords of statements, by the families of the parser
action_keyword_is : (w : List ℕ) (x : StmtKeyword) → action_keyword w ≡ Some x → w ≡ stmt_word x
action_keyword_is w x = row stmt_word keywords.Print (row stmt_word keywords.Count absent)

table_keyword_is : (w : List ℕ) (x : StmtKeyword) → table_keyword w ≡ Some x → w ≡ stmt_word x
table_keyword_is w x = row stmt_word keywords.Filter (row stmt_word keywords.MapValues (row stmt_word keywords.Minus (row stmt_word keywords.Diff (row stmt_word keywords.InnerJoin (row stmt_word keywords.LeftJoin (action_keyword_is w x))))))

message_keyword_is : (w : List ℕ) (x : StmtKeyword) → message_keyword w ≡ Some x → w ≡ stmt_word x
message_keyword_is w x = row stmt_word keywords.Aggregate (row stmt_word keywords.InDegrees (row stmt_word keywords.OutDegrees (row stmt_word keywords.Degrees (row stmt_word keywords.Neighbours (row stmt_word keywords.Pregel (table_keyword_is w x))))))

join_keyword_is : (w : List ℕ) (x : StmtKeyword) → join_keyword w ≡ Some x → w ≡ stmt_word x
join_keyword_is w x = row stmt_word keywords.JoinVertices (row stmt_word keywords.OuterJoin (message_keyword_is w x))

map_keyword_is : (w : List ℕ) (x : StmtKeyword) → map_keyword w ≡ Some x → w ≡ stmt_word x
map_keyword_is w x = row stmt_word keywords.MapVertices (row stmt_word keywords.MapEdges (row stmt_word keywords.MapTriplets (join_keyword_is w x)))

graph_keyword_is : (w : List ℕ) (x : StmtKeyword) → graph_keyword w ≡ Some x → w ≡ stmt_word x
graph_keyword_is w x = row stmt_word keywords.Graph (row stmt_word keywords.FromEdges (row stmt_word keywords.Reverse (row stmt_word keywords.Mask (row stmt_word keywords.Subgraph (row stmt_word keywords.GroupEdges (row stmt_word keywords.Partition (map_keyword_is w x)))))))

pub keyword_is : (w : List ℕ) (x : StmtKeyword) → keyword_of w ≡ Some x → w ≡ stmt_word x
keyword_is w x = row stmt_word keywords.Vertices (row stmt_word keywords.Edges (row stmt_word keywords.EdgeList (graph_keyword_is w x)))

-- a word that stands for a value
pub choice_printer : {A : Type 0} (value_of : List ℕ → Option A) (word_of : A → List ℕ) → ((w : List ℕ) (x : A) → value_of w ≡ Some x → w ≡ word_of x) → IsPrinter (Satisfies (keyword_value value_of)) (λ x. word_pieces (word_of x))
choice_printer {A = A} value_of word_of is = token_printer (keyword_value value_of) (λ x. token (word (word_of x))) token_is (λ x. refl)
  where
    token_is : (t : Terminal) (x : A) → keyword_value value_of t ≡ Some x → t ≡ word (word_of x)
    token_is (word w) x e = ap word (is w x e)
    token_is (number n) x e = cc
    token_is (quoted s) x e = cc
    token_is (symbol s) x e = cc
