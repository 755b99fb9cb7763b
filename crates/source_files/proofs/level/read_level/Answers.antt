use Rattle.std.proofs.Common.{refl, length, ◌≡◌, ◌∙◌, ◌+◌, suc, ℕ, sym, subst, arith}
use Rattle.std.proofs.lemmas.Result.{err_from_is_err_and}
use Rattle.inf_ports.specs.Outside.{Told}
use Rattle.source_files.specs.Files.{IsRefusal}
use Rattle.source_files.specs.Levels.{ReadsFrom, RaisesTo, IsLevel, IsAmid}
use Rattle.source_files.proofs.Depths.{refusal_wider, amid_begins, amid_goes, amid_ends, amid_refused}
use Rattle.source_files.proofs.level.read_level.Goals as goal

pub loop-index-init : goal.loop-index-init
loop-index-init g c =
    let same : c.len-end.result ≡ length c.args.reader.now.texts.items = c.len-end.ensures ∙ c.args.reader.now.texts.ok.0 in
    record {
      told = refl;
      later = omega arith;
      longer = omega (arith, same);
      amid = λ first source before d l.
          amid_begins (g.H.HostTree.told c.args.files.now) first source before c.args.begin c.args.reader.now c.len-end.result same l;
    }

pub returns-in_err-read_from-clause-refused : goal.returns-in_err-read_from-clause-refused
returns-in_err-read_from-clause-refused g c =
    let told = g.H.HostTree.told c.args.files.now in
    let now = g.H.HostTree.faults c.read_from.new.files in
    let mid = g.H.HostTree.faults c.loop-index.files in
    let k : IsRefusal told mid now c.in_err-read_from.field-0.0 =
    subst (λ (z : Told). IsRefusal z mid now c.in_err-read_from.field-0.0) c.loop-index.invariant.told c.in_err-read_from.ensures.refused in
    let w = refusal_wider told (g.H.HostTree.faults c.args.files.now) mid now c.in_err-read_from.field-0.0 c.loop-index.invariant.later k in
    let p = err_from_is_err_and c.from_residual.result c.from_residual.ensures.1 in
    rw (p.1, p.2) w

pub loop-index-preserved : goal.loop-index-preserved
loop-index-preserved g c =
    let k = c.loop-index.invariant in
    let told = g.H.HostTree.told c.args.files.now in
    let mid = c.loop-index.reader in
    let new = c.read_from.new.reader in
    let a : ReadsFrom told c.loop-index.index c.args.depth mid new =
    subst (λ (t : Told). ReadsFrom t c.loop-index.index c.args.depth mid new) k.told c.in_ok-read_from.ensures.reads in
    record {
      told = c.in_ok-read_from.ensures.kept ∙ k.told;
      later = omega (arith, k.later, c.in_ok-read_from.ensures.later);
      longer = let w = a.longer in omega (arith, k.longer);
      amid = λ first source before d l.
          let r = subst (λ (z : ℕ). ReadsFrom told c.loop-index.index z mid new) d a in
          let n = amid_goes told first source before c.loop-index.index c.len-end.result mid new (k.amid first source before d l) c.loop-index-test.true k.longer r in
          let e : suc c.loop-index.index ≡ c.loop-index.index + 1 = omega arith in
          subst (λ (z : ℕ). IsAmid told first source before z c.len-end.result new) e n;
    }

pub returns-clause-raises : goal.returns-clause-raises
returns-clause-raises g c = record {
  raises = λ first source before d l.
      let told = g.H.HostTree.told c.args.files.now in
      let k = c.loop-index.invariant in
      let n = amid_ends told first source before c.loop-index.index c.len-end.result c.loop-index.reader (omega arith) (k.amid first source before d l) in
      subst (λ (z : ℕ). IsLevel told first source z c.len-end.result c.loop-index.reader) (sym d) n;
}

pub returns-in_err-read_from-clause-own : goal.returns-in_err-read_from-clause-own
returns-in_err-read_from-clause-own g c =
    let told = g.H.HostTree.told c.args.files.now in
    let k = c.loop-index.invariant in
    let e = c.in_err-read_from.field-0.0 in
    let own : RaisesTo told c.args.begin c.args.depth c.args.reader.now e =
    λ first source before d h l.
    amid_refused told first source before c.loop-index.index c.len-end.result c.loop-index.reader e (omega arith) c.loop-index-test.true
    (k.amid first source before d l) c.in_err-read_from.ensures.own in
    let p = err_from_is_err_and c.from_residual.result c.from_residual.ensures.1 in
    rw (p.1, p.2) own
