use Rattle.std.proofs.Common.{sym, ◌∙◌}
use Rattle.gx_load.specs.Separators.{separates}
use Rattle.gx_load.proofs.PieceLemmas.{no_word_left, word_taken}
use Rattle.gx_load.proofs.words.Words.take.Goals as goal

pub returns-then-len-eq0 : goal.returns-then-len-eq0
returns-then-len-eq0 c =
    let none = no_word_left (separates c.self.inside.separator) c.self.inside.rest.now c.gap_len-start.result c.word_len-len.result
    c.gap_len-start.ensures.count c.word_len-len.ensures.count c.if-len-eq0.true in
    (sym c.self.view_is ∙ none.0, none.1)

pub returns : goal.returns
returns c =
    sym c.self.view_is
    ∙ word_taken (separates c.self.inside.separator) c.self.inside.rest.now c.gap_len-start.result c.word_len-len.result
    c.gap_len-start.ensures.count c.word_len-len.ensures.count c.if-len-eq0.false
