-- The words of cuts, for crates that do not name them.
use Rattle.gx_syntax_tree.specs.declared.words.CutWord.{CutWord}
use Rattle.gx_syntax_tree.specs.declared.words.CutWord.TheVariants as cut_words

-- what holds of what each word of a cut stands for
pub each-cut_word : {A : Type 0} (meaning : CutWord → A) (P : A → Type 0)
    → P (meaning cut_words.OneD) → P (meaning cut_words.TwoD) → P (meaning cut_words.Random)
    → P (meaning cut_words.Canonical)
    → (word : CutWord) → P (meaning word)
each-cut_word meaning P one two random canonical cut_words.OneD = one
each-cut_word meaning P one two random canonical cut_words.TwoD = two
each-cut_word meaning P one two random canonical cut_words.Random = random
each-cut_word meaning P one two random canonical cut_words.Canonical = canonical
