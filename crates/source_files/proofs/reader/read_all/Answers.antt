use Rattle.std.proofs.Common.{◌≡◌, ◌∙◌, List, ℕ, true, inl, inr, sym, subst, arith}
use Rattle.std.proofs.lemmas.List.{take_all}
use Rattle.std.specs.List.{Contains}
use Rattle.inf_ports.specs.Outside.{Told}
use Rattle.source_files.specs.Reading.{Asks, is_asked}
use Rattle.source_files.proofs.Readers.{fresh_then, reading_asks, leads_more, later_then, asks_longer, taken_cases}
use Rattle.source_files.proofs.reader.read_all.Goals as goal

pub loop-path-preserved : goal.loop-path-preserved
loop-path-preserved g c =
    let k = c.loop-path.invariant in
    let x = c.path-item.result in
    let told = g.H.HostTree.told c.args.files.now in
    let mid = c.loop-path.reader in
    let new = c.read_one.new.reader in
    let a : Asks told x c.args.depth mid new = subst (λ (t : Told). Asks t x c.args.depth mid new) k.told c.in_ok-read_one.ensures.asks in
    record {
      told = c.in_ok-read_one.ensures.kept ∙ k.told;
      later = omega (arith, k.later, c.in_ok-read_one.ensures.later);
      longer = omega (arith, k.longer, asks_longer told x c.args.depth mid new a);
      asks = λ q h. elim (taken_cases c.args.named.now c.loop-path.path-index x q (omega arith) c.path-item.is h) [
        | inl o ↦ a.mono q (k.asks q o)
        | inr e ↦ subst (λ (z : List ℕ). is_asked new z ≡ true) e a.asks
      ];
      firm = λ e h. a.firm e (k.firm e h);
      fresh = λ h. fresh_then c.args.named.now x mid.refused new.refused (c.loop-path.path-index, omega arith, sym c.path-item.is) (k.fresh h) a.firm a.fresh;
      reading = λ first source n p tops l d f r.
          let b = k.reading first source n p tops l d f r in
          let s = reading_asks told first source x c.args.depth mid new a b.0 n p tops (leads_more first source c.args.reader.now mid b.1.tops n p tops l) d (f x (c.loop-path.path-index, omega arith, sym c.path-item.is)) in
          (s.0, later_then c.args.depth c.args.reader.now mid new k.longer b.1 s.1);
    }

pub returns-clause-asks : goal.returns-clause-asks
returns-clause-asks g c =
    let k = c.loop-path.invariant in
    record {
      longer = k.longer;
      asks = λ q h. k.asks q (subst (λ (z : List (List ℕ)). Contains z q) (sym (take_all c.loop-path.path-index c.args.named.now (omega arith))) h);
      firm = k.firm;
      fresh = k.fresh;
      reading = k.reading;
    }
