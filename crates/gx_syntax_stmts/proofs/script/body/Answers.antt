use Rattle.std.proofs.Common.{◌≡◌, List, refl, sym, ◌∙◌, ap, subst, rules}
use Rattle.gx_syntax_tokens.specs.Terminals.{Terminal}
use Rattle.gx_syntax_exprs.specs.Combinators.{◌>>=◌, seq}
use Rattle.gx_syntax_exprs.specs.Parses.{Parses}
use Rattle.gx_syntax_tree.specs.declared.keyword.StmtKeyword.{StmtKeyword}
use Rattle.gx_syntax_tree.specs.declared.keyword.StmtKeyword.TheVariants as keywords
use Rattle.gx_syntax_stmts.specs.Forms.{target, rest, body}
use Rattle.gx_syntax_stmts.proofs.script.body.Goals as goal

with_target : (k : StmtKeyword) (ts : List Terminal) → ¬ (k ≡ keywords.Vertices) → ¬ (k ≡ keywords.Edges) → ¬ (k ≡ keywords.EdgeList) → ¬ (k ≡ keywords.Print) → ¬ (k ≡ keywords.Count) → body k ts ≡ seq target (λ t. rest k t.0 t.1) ts
unfolding body
with_target keywords.Vertices ts a b c d e = absurd (a refl)
with_target keywords.Edges ts a b c d e = absurd (b refl)
with_target keywords.EdgeList ts a b c d e = absurd (c refl)
with_target keywords.Print ts a b c d e = absurd (d refl)
with_target keywords.Count ts a b c d e = absurd (e refl)
with_target _ ts a b c d e = refl

pub returns-in_err-name-in_default : goal.returns-in_err-name-in_default
returns-in_err-name-in_default c =
    let n = c.in_default in
    subst (λ q. Parses c.from_residual.result c.target.new.cursor q) (sym (with_target c.args.keyword c.args.cursor.now n.not-Vertices n.not-Edges n.not-EdgeList n.not-Print n.not-Count)) (search rules)

pub returns-in_ok-name-in_default : goal.returns-in_ok-name-in_default
returns-in_ok-name-in_default c =
    let n = c.in_default in
    subst (λ q. Parses c.rest.result c.rest.new.cursor q)
    (sym (with_target c.args.keyword c.args.cursor.now n.not-Vertices n.not-Edges n.not-EdgeList n.not-Print n.not-Count ∙ ap (λ r. r >>= λ t. rest c.args.keyword t.0 t.1) c.in_ok-name-in_default.ensures))
    c.rest.ensures
