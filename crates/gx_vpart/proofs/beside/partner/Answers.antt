use Rattle.std.proofs.Common.{◌≡◌, Less, Greater, rules}
use Rattle.gx_index.specs.Ids.{id_cmp}
use Rattle.gx_vpart.proofs.Joining.{WalksTo-greater, WalksTo-less}
use Rattle.gx_vpart.proofs.beside.partner.Goals as goal

pub below-preserved : goal.below-preserved
below-preserved c =
    let less : id_cmp c.in-Some.w c.args.v ≡ Less = search rules in
    rw c.advance.ensures (WalksTo-less c.in-Some.w c.in-Some.row.now _ c.below.invariant c.in-Some.ensures less)

pub returns-in-Greater-clause-found : goal.returns-in-Greater-clause-found
returns-in-Greater-clause-found c =
    let greater : id_cmp c.in-Some.w c.args.v ≡ Greater = search rules in
    (WalksTo-greater c.in-Some.w c.in-Some.row.now _ c.below.invariant c.in-Some.ensures greater).0
