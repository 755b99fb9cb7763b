use Rattle.inferno_top.specs.Outcome.{Course, IsCause}
use Rattle.inferno_top.proofs.Dumped as dumping
use Rattle.inferno_command.proofs.Words.{by_form, named_go}
use Rattle.inferno_top.specs.declared.cause.Aim.TheVariants.{Run}
use Rattle.inferno_top.proofs.Compiled as compiling
use Rattle.inferno_top.proofs.Compiled.{ended_for}
use Rattle.inferno_top.proofs.Endings as sources
use Rattle.inferno_top.proofs.Exact as exact
use Rattle.inferno_top.proofs.Trees.{laws}
use Rattle.inferno_top.proofs.Runs as runs
use Rattle.inferno_top.proofs.top.inferno.Goals as goal

pub returns-clause-ran : goal.returns-clause-ran
returns-clause-ran g c other =
    let left = c.decide-cause.result.1 in
    let ran = runs.closed_ran c.args.words.now (g.H.HostTree.told c.args.files.now) left.journal left.objects.items (g.K.Sink.held
    c.args.out.now) (g.K.Sink.held c.decide-cause.new.out) (g.K.Sink.faults c.args.out.now) (g.K.Sink.faults c.decide-cause.new.out)
    (g.H.HostTree.faults c.args.files.now) (g.H.HostTree.faults c.decide-cause.new.files) c.decide-cause.result.0 c.close-cause.result
    (c.decide-cause.ensures.ran other) c.close-cause.ensures.cause in
    ran

pub returns-clause-cause : goal.returns-clause-cause
returns-clause-cause g c other =
    let course : Course = record {
      words = c.args.words.now;
      told = g.H.HostTree.told c.args.files.now;
      files_before = g.H.HostTree.faults c.args.files.now;
      files_after = g.H.HostTree.faults c.decide-cause.new.files;
      out_before = g.K.Sink.faults c.args.out.now;
      out_after = g.K.Sink.faults c.decide-cause.new.out;
      err_before = g.E.Sink.faults c.args.err.now;
      err_after = g.E.Sink.faults c.args.err.now;
    } in
    let is : IsCause course c.close-cause.result = exact.closed course c.decide-cause.result.0 c.close-cause.result
    (c.decide-cause.ensures.cause other) c.close-cause.ensures.cause in
    exact.later_cause course (g.E.Sink.faults c.close-cause.new.err) c.close-cause.result c.close-cause.ensures.later is

pub returns-clause-ends : goal.returns-clause-ends
returns-clause-ends g c program tells calm quiet silent =
    let other = named_go c.args.words.now tells.file tells.named in
    let course : Course = record {
      words = c.args.words.now;
      told = g.H.HostTree.told c.args.files.now;
      files_before = g.H.HostTree.faults c.args.files.now;
      files_after = g.H.HostTree.faults c.decide-cause.new.files;
      out_before = g.K.Sink.faults c.args.out.now;
      out_after = g.K.Sink.faults c.decide-cause.new.out;
      err_before = g.E.Sink.faults c.args.err.now;
      err_after = g.E.Sink.faults c.args.err.now;
    } in
    let is : IsCause course c.close-cause.result = exact.closed course c.decide-cause.result.0 c.close-cause.result
    (c.decide-cause.ensures.cause other) c.close-cause.ensures.cause in
    exact.ends (laws c.one_checked.ensures c.fails_or_checked.ensures c.clash_or_apart.ensures.not_both)
    (record course { err_after = g.E.Sink.faults c.close-cause.new.err }) c.close-cause.result
    (exact.later_cause course (g.E.Sink.faults c.close-cause.new.err) c.close-cause.result c.close-cause.ensures.later is) program tells
    calm quiet silent

pub returns-clause-told : goal.returns-clause-told
returns-clause-told g c program t calm =
    let other = named_go c.args.words.now t.file t.named in
    let left = c.decide-cause.result.1 in
    let ran = runs.closed_ran c.args.words.now (g.H.HostTree.told c.args.files.now) left.journal left.objects.items (g.K.Sink.held
    c.args.out.now) (g.K.Sink.held c.decide-cause.new.out) (g.K.Sink.faults c.args.out.now) (g.K.Sink.faults c.decide-cause.new.out)
    (g.H.HostTree.faults c.args.files.now) (g.H.HostTree.faults c.decide-cause.new.files) c.decide-cause.result.0 c.close-cause.result
    (c.decide-cause.ensures.ran other) c.close-cause.ensures.cause in
    runs.told_ran c.args.words.now (g.H.HostTree.told c.args.files.now) left.journal left.objects.items (g.K.Sink.held c.args.out.now)
    (g.K.Sink.held c.decide-cause.new.out) (g.K.Sink.faults c.args.out.now) (g.K.Sink.faults c.decide-cause.new.out)
    (g.H.HostTree.faults c.args.files.now) (g.H.HostTree.faults c.decide-cause.new.files) c.close-cause.result program t ran
    (exact.same_program (laws c.one_checked.ensures c.fails_or_checked.ensures c.clash_or_apart.ensures.not_both) c.args.words.now
    (g.H.HostTree.told c.args.files.now) program t)
    (λ refusal. exact.unrefused (laws c.one_checked.ensures c.fails_or_checked.ensures c.clash_or_apart.ensures.not_both) c.args.words.now
    (g.H.HostTree.told c.args.files.now) (g.H.HostTree.faults c.args.files.now)
    (g.H.HostTree.faults c.decide-cause.new.files) c.close-cause.result program refusal t calm)

pub returns-clause-started : goal.returns-clause-started
returns-clause-started g c other =
    let left = c.decide-cause.result.1 in
    let ran = runs.closed_ran c.args.words.now (g.H.HostTree.told c.args.files.now) left.journal left.objects.items (g.K.Sink.held
    c.args.out.now) (g.K.Sink.held c.decide-cause.new.out) (g.K.Sink.faults c.args.out.now) (g.K.Sink.faults c.decide-cause.new.out)
    (g.H.HostTree.faults c.args.files.now) (g.H.HostTree.faults c.decide-cause.new.files) c.decide-cause.result.0 c.close-cause.result
    (c.decide-cause.ensures.ran other) c.close-cause.ensures.cause in
    runs.started c.args.words.now (g.H.HostTree.told c.args.files.now) left.journal left.objects.items (g.K.Sink.held c.args.out.now)
    (g.K.Sink.held c.decide-cause.new.out) (g.K.Sink.faults c.args.out.now) (g.K.Sink.faults c.decide-cause.new.out)
    (g.H.HostTree.faults c.args.files.now) (g.H.HostTree.faults c.decide-cause.new.files) c.close-cause.result ran

pub returns-clause-failed : goal.returns-clause-failed
returns-clause-failed g c program tells calm rose =
    let other = named_go c.args.words.now tells.file tells.named in
    let course : Course = record {
      words = c.args.words.now;
      told = g.H.HostTree.told c.args.files.now;
      files_before = g.H.HostTree.faults c.args.files.now;
      files_after = g.H.HostTree.faults c.decide-cause.new.files;
      out_before = g.K.Sink.faults c.args.out.now;
      out_after = g.K.Sink.faults c.decide-cause.new.out;
      err_before = g.E.Sink.faults c.args.err.now;
      err_after = g.E.Sink.faults c.args.err.now;
    } in
    let is : IsCause course c.close-cause.result = exact.closed course c.decide-cause.result.0 c.close-cause.result
    (c.decide-cause.ensures.cause other) c.close-cause.ensures.cause in
    exact.failed (laws c.one_checked.ensures c.fails_or_checked.ensures c.clash_or_apart.ensures.not_both) course c.close-cause.result is program tells calm rose

pub returns-clause-usage : goal.returns-clause-usage
returns-clause-usage g c other none =
    let course : Course = record {
      words = c.args.words.now;
      told = g.H.HostTree.told c.args.files.now;
      files_before = g.H.HostTree.faults c.args.files.now;
      files_after = g.H.HostTree.faults c.decide-cause.new.files;
      out_before = g.K.Sink.faults c.args.out.now;
      out_after = g.K.Sink.faults c.decide-cause.new.out;
      err_before = g.E.Sink.faults c.args.err.now;
      err_after = g.E.Sink.faults c.args.err.now;
    } in
    let is : IsCause course c.close-cause.result = exact.closed course c.decide-cause.result.0 c.close-cause.result
    (c.decide-cause.ensures.cause other) c.close-cause.ensures.cause in
    exact.usage course c.close-cause.result is none

pub returns-clause-dumped : goal.returns-clause-dumped
returns-clause-dumped g c file dumps =
    dumping.later _ _ _ _ _ _ _ _
    (dumping.closed _ _ _ _ _ _ _ _ (c.decide-cause.ensures.dumped file dumps) c.close-cause.result c.close-cause.ensures.cause)
    (g.E.Sink.faults c.close-cause.new.err) c.close-cause.ensures.later

pub returns-clause-listed : goal.returns-clause-listed
returns-clause-listed g c file o dumps t calm =
    dumping.listed _ _ _ _ _ _ _ _ (returns-clause-dumped g c file dumps) o t calm

pub returns-clause-shown : goal.returns-clause-shown
returns-clause-shown g c file o dumps t calm quiet silent =
    dumping.shown _ file o _ (returns-clause-listed g c file o dumps t calm) quiet silent

pub returns-clause-unspelled : goal.returns-clause-unspelled
returns-clause-unspelled g c file bytes dumps tells none calm =
    dumping.unspelled _ _ _ _ _ _ _ _ (returns-clause-dumped g c file dumps) bytes tells none calm

pub returns-clause-absent : goal.returns-clause-absent
returns-clause-absent g c file dumps tells calm =
    dumping.absent _ file _ _ _ _ _ _ (returns-clause-dumped g c file dumps) tells calm

pub returns-clause-compiled : goal.returns-clause-compiled
returns-clause-compiled g c file to asks =
    let left = c.decide-cause.result.1 in
    compiling.closed (g.H.HostTree.told c.args.files.now) (g.H.HostTree.told c.decide-cause.new.files) file to
    (g.H.HostTree.faults c.args.files.now) (g.H.HostTree.faults c.decide-cause.new.files) left.journal left.objects.items
    (g.K.Sink.held c.args.out.now) (g.K.Sink.held c.decide-cause.new.out) c.decide-cause.result.0 c.close-cause.result
    (c.decide-cause.ensures.compiled file to asks) c.close-cause.ensures.cause

pub returns-clause-quiet : goal.returns-clause-quiet
returns-clause-quiet g c unrun =
    by_form c.args.words.now
    (λ other.
    let left = c.decide-cause.result.1 in
    let ran = runs.closed_ran c.args.words.now (g.H.HostTree.told c.args.files.now) left.journal left.objects.items (g.K.Sink.held
    c.args.out.now) (g.K.Sink.held c.decide-cause.new.out) (g.K.Sink.faults c.args.out.now) (g.K.Sink.faults c.decide-cause.new.out)
    (g.H.HostTree.faults c.args.files.now) (g.H.HostTree.faults c.decide-cause.new.files) c.decide-cause.result.0 c.close-cause.result
    (c.decide-cause.ensures.ran other) c.close-cause.ensures.cause in
    runs.quiet c.args.words.now (g.H.HostTree.told c.args.files.now) left.journal left.objects.items (g.K.Sink.held c.args.out.now)
    (g.K.Sink.held c.decide-cause.new.out) (g.K.Sink.faults c.args.out.now) (g.K.Sink.faults c.decide-cause.new.out)
    (g.H.HostTree.faults c.args.files.now) (g.H.HostTree.faults c.decide-cause.new.files) c.close-cause.result ran unrun)
    (λ file dumps. dumping.quiet _ _ _ _ _ _ _ _ (returns-clause-dumped g c file dumps) unrun)
    (λ file to asks. (returns-clause-compiled g c file to asks).ran)

pub returns-clause-missing : goal.returns-clause-missing
returns-clause-missing g c aim file asks tells calm =
    let told = g.H.HostTree.told c.args.files.now in
    let before = g.H.HostTree.faults c.args.files.now in
    let now = g.H.HostTree.faults c.decide-cause.new.files in
    let course : Course = record {
      words = c.args.words.now;
      told = told;
      files_before = before;
      files_after = now;
      out_before = g.K.Sink.faults c.args.out.now;
      out_after = g.K.Sink.faults c.decide-cause.new.out;
      err_before = g.E.Sink.faults c.args.err.now;
      err_after = g.E.Sink.faults c.args.err.now;
    } in
    let ended = ended_for aim course (g.H.HostTree.told c.decide-cause.new.files) c.close-cause.result file asks
    (λ other. exact.closed course c.decide-cause.result.0 c.close-cause.result (c.decide-cause.ensures.cause other)
    c.close-cause.ensures.cause)
    (λ from to asks. (returns-clause-compiled g c from to asks).left) in
    sources.missing aim told file before now tells calm c.close-cause.result ended

pub returns-clause-refused : goal.returns-clause-refused
returns-clause-refused g c aim file source asks tells none calm =
    let told = g.H.HostTree.told c.args.files.now in
    let before = g.H.HostTree.faults c.args.files.now in
    let now = g.H.HostTree.faults c.decide-cause.new.files in
    let course : Course = record {
      words = c.args.words.now;
      told = told;
      files_before = before;
      files_after = now;
      out_before = g.K.Sink.faults c.args.out.now;
      out_after = g.K.Sink.faults c.decide-cause.new.out;
      err_before = g.E.Sink.faults c.args.err.now;
      err_after = g.E.Sink.faults c.args.err.now;
    } in
    let ended = ended_for aim course (g.H.HostTree.told c.decide-cause.new.files) c.close-cause.result file asks
    (λ other. exact.closed course c.decide-cause.result.0 c.close-cause.result (c.decide-cause.ensures.cause other)
    c.close-cause.ensures.cause)
    (λ from to asks. (returns-clause-compiled g c from to asks).left) in
    sources.refused aim told file before now source tells calm none c.close-cause.result ended

pub returns-clause-beginless : goal.returns-clause-beginless
returns-clause-beginless g c x t calm =
    let told = g.H.HostTree.told c.args.files.now in
    let before = g.H.HostTree.faults c.args.files.now in
    let now = g.H.HostTree.faults c.decide-cause.new.files in
    let course : Course = record {
      words = c.args.words.now;
      told = told;
      files_before = before;
      files_after = now;
      out_before = g.K.Sink.faults c.args.out.now;
      out_after = g.K.Sink.faults c.decide-cause.new.out;
      err_before = g.E.Sink.faults c.args.err.now;
      err_after = g.E.Sink.faults c.args.err.now;
    } in
    let ended = ended_for Run course (g.H.HostTree.told c.decide-cause.new.files) c.close-cause.result t.file t.named
    (λ other. exact.closed course c.decide-cause.result.0 c.close-cause.result (c.decide-cause.ensures.cause other)
    c.close-cause.ensures.cause)
    (λ from to asks. (returns-clause-compiled g c from to asks).left) in
    sources.beginless told t.file before now t.source t.tells calm
    (laws c.one_checked.ensures c.fails_or_checked.ensures c.clash_or_apart.ensures.not_both) x t.tree t.has t.other
    c.close-cause.result ended

pub returns-clause-outside : goal.returns-clause-outside
returns-clause-outside g c aim x t none calm =
    let told = g.H.HostTree.told c.args.files.now in
    let before = g.H.HostTree.faults c.args.files.now in
    let now = g.H.HostTree.faults c.decide-cause.new.files in
    let course : Course = record {
      words = c.args.words.now;
      told = told;
      files_before = before;
      files_after = now;
      out_before = g.K.Sink.faults c.args.out.now;
      out_after = g.K.Sink.faults c.decide-cause.new.out;
      err_before = g.E.Sink.faults c.args.err.now;
      err_after = g.E.Sink.faults c.args.err.now;
    } in
    let ended = ended_for aim course (g.H.HostTree.told c.decide-cause.new.files) c.close-cause.result t.file t.named
    (λ other. exact.closed course c.decide-cause.result.0 c.close-cause.result (c.decide-cause.ensures.cause other)
    c.close-cause.ensures.cause)
    (λ from to asks. (returns-clause-compiled g c from to asks).left) in
    sources.outside aim told t.file before now t.source t.tells
    (laws c.one_checked.ensures c.fails_or_checked.ensures c.clash_or_apart.ensures.not_both) x t.is none calm c.close-cause.result
    ended

pub returns-clause-clashing : goal.returns-clause-clashing
returns-clause-clashing g c aim x t has clash calm =
    let told = g.H.HostTree.told c.args.files.now in
    let before = g.H.HostTree.faults c.args.files.now in
    let now = g.H.HostTree.faults c.decide-cause.new.files in
    let course : Course = record {
      words = c.args.words.now;
      told = told;
      files_before = before;
      files_after = now;
      out_before = g.K.Sink.faults c.args.out.now;
      out_after = g.K.Sink.faults c.decide-cause.new.out;
      err_before = g.E.Sink.faults c.args.err.now;
      err_after = g.E.Sink.faults c.args.err.now;
    } in
    let ended = ended_for aim course (g.H.HostTree.told c.decide-cause.new.files) c.close-cause.result t.file t.named
    (λ other. exact.closed course c.decide-cause.result.0 c.close-cause.result (c.decide-cause.ensures.cause other)
    c.close-cause.ensures.cause)
    (λ from to asks. (returns-clause-compiled g c from to asks).left) in
    sources.clashing aim told t.file before now t.source t.tells
    (laws c.one_checked.ensures c.fails_or_checked.ensures c.clash_or_apart.ensures.not_both) x (record { is = t.is; has = has }) clash calm
    c.close-cause.result ended

pub returns-clause-written : goal.returns-clause-written
returns-clause-written g c m t calm =
    compiling.written (laws c.one_checked.ensures c.fails_or_checked.ensures c.clash_or_apart.ensures.not_both)
    c.args.words.now (g.H.HostTree.told c.args.files.now) (g.H.HostTree.told c.decide-cause.new.files) m t
    (g.H.HostTree.faults c.args.files.now) (g.H.HostTree.faults c.decide-cause.new.files) calm c.close-cause.result
    (returns-clause-compiled g c t.file t.named.0 t.named.1).left
