use Rattle.std.proofs.Common.{rules, ◌∙◌, ap, sym, subst}
use Rattle.std.specs.Map.{keys_of}
use Rattle.std.proofs.lemmas.Fn.{dedup_same}
use Rattle.std.proofs.lemmas.List.Sorted.{answers_always}
use Rattle.gx_gops.specs.TableLaws.{IsTableOf-table_of}
use Rattle.gx_index.specs.Ids.{IsAscending, is_same_id}
use Rattle.gx_vpart.specs.LentRows.{vertices_lent}
use Rattle.gx_gops.proofs.LentTables.{table-seen}
use Rattle.gx_gops.proofs.lent_rows.first_rows.Goals as goal

pub returns-clause-exact : goal.returns-clause-exact
returns-clause-exact c =
    let kept = dedup_same _ (λ x y. is_same_id x.0 y.0) _ (λ x y b f' x' y' k. search rules) _ _ c.dedup_by_key.ensures.filtered in
    let by_id = answers_always _ _ _ (λ f a r f' k. search rules) in
    ap vertices_lent kept
    ∙ table-seen (λ v. (v.0, v.1.now)) c.args.rows.items _ (c.in_ok-sort_by_key.ensures.sorted (λ r. r.0) by_id) (c.in_ok-sort_by_key.ensures.stable (λ r. r.0) by_id)

pub returns-clause-ascending : goal.returns-clause-ascending
returns-clause-ascending c = subst (λ rows. IsAscending (keys_of rows)) (sym (returns-clause-exact c)) (IsTableOf-table_of (vertices_lent c.args.rows.items)).ascending
