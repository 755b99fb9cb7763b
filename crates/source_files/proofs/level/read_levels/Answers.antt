use Rattle.std.proofs.Common.{◌≡◌, ◌∙◌, ◌+◌, ℕ, subst, arith}
use Rattle.std.proofs.lemmas.Result.{err_from_is_err_and}
use Rattle.inf_ports.specs.Outside.{Told}
use Rattle.source_files.specs.Levels.{IsLevel, Raises, RaisesTo, ReadsTo}
use Rattle.source_files.specs.declared.level.TheConstants.{MOST}
use Rattle.source_files.proofs.level.read_levels.Goals as goal

pub loop-depth-preserved : goal.loop-depth-preserved
loop-depth-preserved g c =
    let k = c.loop-depth.invariant in
    let told = g.H.HostTree.told c.args.files.now in
    let mid = c.loop-depth.reader in
    let new = c.read_level.new.reader in
    let a : Raises told c.loop-depth.begin c.in_ok-begin.begin (c.loop-depth.depth + 1) mid new =
    subst (λ (t : Told). Raises t c.loop-depth.begin c.in_ok-begin.begin (c.loop-depth.depth + 1) mid new) k.told c.in_ok-begin.ensures.raises in
    record {
      told = c.in_ok-begin.ensures.kept ∙ k.told;
      later = omega (arith, k.later, c.in_ok-begin.ensures.later);
      reads = λ first source l. a.raises first source c.loop-depth.depth (omega arith) (k.reads first source l);
    }

pub returns-clause-reads : goal.returns-clause-reads
returns-clause-reads g c =
    let k = c.loop-depth.invariant in
    let told = g.H.HostTree.told c.args.files.now in
    let e : c.loop-depth.depth ≡ MOST = omega (arith, c.loop-depth.auto.depth-end) in
    record {
      begin = c.loop-depth.begin;
      reads = λ first source l.
          subst (λ (z : ℕ). IsLevel told first source z c.loop-depth.begin c.loop-depth.reader) e (k.reads first source l);
    }

pub returns-in_err-begin-clause-own : goal.returns-in_err-begin-clause-own
returns-in_err-begin-clause-own g c =
    let told = g.H.HostTree.told c.args.files.now in
    let k = c.loop-depth.invariant in
    let e = c.in_err-begin.field-0.0 in
    let a : RaisesTo told c.loop-depth.begin (c.loop-depth.depth + 1) c.loop-depth.reader e =
    subst (λ (t : Told). RaisesTo t c.loop-depth.begin (c.loop-depth.depth + 1) c.loop-depth.reader e) k.told c.in_err-begin.ensures.own in
    let own : ReadsTo told c.args.reader.now e =
    λ first source l. a first source c.loop-depth.depth (omega arith) (omega (arith, c.loop-depth-test.true)) (k.reads first source l) in
    let p = err_from_is_err_and c.from_residual.result c.from_residual.ensures.1 in
    rw (p.1, p.2) own
