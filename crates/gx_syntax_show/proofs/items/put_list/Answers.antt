use Rattle.std.proofs.Common.{◌≡◌, ◌<◌, ◌∙◌, arith, length, take, sym, ap}
use Rattle.std.proofs.lemmas.List.{take_all}
use Rattle.gx_syntax_tokens.specs.Writing.{with_pieces}
use Rattle.gx_syntax_show.proofs.ListWriting.{comma_before, comma-none, comma-some, put_next_item}
use Rattle.gx_syntax_show.proofs.PiecesLemmas.{pieces_append}
use Rattle.gx_syntax_show.proofs.items.put_list.Goals as goal
use Rattle.gx_syntax_show.proofs.items.put_list.Goals.{then-i-gt0+in_ok-symbol-2, else-i-gt0}

pub items-preserved : goal.items-preserved
items-preserved g c =
    let below : c.items.i < length c.as_slice-item-items.result.now = omega arith in
    let comma : c.if-i-gt0.out ≡ with_pieces c.items.out (comma_before c.items.i) =
    elim c.if-i-gt0.branch [
      | then-i-gt0+in_ok-symbol-2 w ↦ w.out-is ∙ w.in_ok-symbol-2.ensures.written ∙ ap (with_pieces c.items.out) (sym (comma-some c.items.i w.if-i-gt0.true))
      | else-i-gt0 w ↦ w.out-is ∙ ap (with_pieces c.items.out) (sym (comma-none c.items.i w.if-i-gt0.false))
    ] in
    put_next_item g.E.ListItem.pieces c.as_slice-item-items.result.now c.items.i c.item-item.result _ _ _ _ below c.item-item.is c.items.invariant comma c.in_ok-put.ensures

pub returns : goal.returns
returns g c =
    let whole : take c.items.i c.as_slice-item-items.result.now ≡ c.as_slice-item-items.result.now = take_all c.items.i c.as_slice-item-items.result.now (omega arith) in
    grind (arith, pieces_append)
