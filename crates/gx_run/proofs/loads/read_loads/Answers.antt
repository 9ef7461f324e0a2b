use Rattle.std.proofs.Common.{◌≡◌, Err, rules, arith, ◌∙◌}
use Rattle.std.specs.List.{IsDistinct}
use Rattle.gx_run.specs.LoadedFiles.{loaded_seen}
use Rattle.gx_run.proofs.ReadFiles.{loaded_more, loaded_refused}
use Rattle.gx_run.proofs.loads.read_loads.Goals as goal

pub of-no_columns-requires-clause-distinct : goal.of-no_columns-requires-clause-distinct
unfolding IsDistinct
of-no_columns-requires-clause-distinct g c = rw c.new.ensures.items tt

pub returns-in_err-load_if-clause-loads : goal.returns-in_err-load_if-clause-loads
returns-in_err-load_if-clause-loads g c =
    let step = c.in_err-load_if.ensures in
    let so_far = c.loop-before.invariant in
    let end = (c.in_err-load_if.field-0).0 in
    let same : c.from_residual.result ≡ Err end = search rules in
    rw same
    (loaded_refused (g.F.Files.contents c.args.files.now) c.args.typed.now c.loop-before.before _ _ _ (loaded_seen c.loop-before.so_far) end _ _
    (rw c.len-before-end.ensures.count at c.loop-before-test.true) so_far.loaded so_far.rise
    (rw (so_far.kept, c.of-file.ensures) at step.loaded))

pub loop-before-preserved : goal.loop-before-preserved
loop-before-preserved g c =
    let step = c.in_ok-load_if.ensures in
    let so_far = c.loop-before.invariant in
    record {
      kept = step.contents_kept ∙ so_far.kept;
      rise = omega (arith, so_far.rise, step.faults_only_rise);
      loaded =
          loaded_more (g.F.Files.contents c.args.files.now) c.args.typed.now c.loop-before.before _ _ (loaded_seen c.loop-before.so_far) (loaded_seen c.load_if.new.so_far) _
          (rw c.len-before-end.ensures.count at c.loop-before-test.true) so_far.loaded
          (rw (so_far.kept, c.of-file.ensures) at step.loaded);
      sums = step.sums;
      few = omega (arith, so_far.few, step.few);
    }
