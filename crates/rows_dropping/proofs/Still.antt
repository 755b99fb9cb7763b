-- Two that are ready are so while others step, with the same known of the slots of the same function.
use Rattle.std.proofs.Common.{◌≡◌, ℕ, sym, ap, ◌∙◌, subst}
use Rattle.limbo_typed.specs.Typed as typed
use Rattle.limbo_meaning.specs.Process.{Shared}
use Rattle.core_code.specs.Machine as code
use Rattle.dis_meaning.specs.Words.{Refer, Found, word_at}
use Rattle.std.specs.Prelude.{[], None, pos}
use Rattle.dis_meaning.specs.Process.{Process}
use Rattle.dis_memory.specs.Blocks.{World}
use Rattle.value_words.specs.Facts.{Facts}
use Rattle.value_follows.specs.Stands.{Awaited, Ready, place_of, spare_of}
use Rattle.value_follows.specs.Kept.{SameFrame}
use Rattle.value_follows.specs.Sides.{sides, HoldTheSame}
use Rattle.value_follows.specs.Rows.{Base, RowGoes}
use Rattle.value_follows.proofs.Single.{Once}

module _ (m : typed.Module) (b : Base m) (i : ℕ) (p : code.Process) (q : Process) (k : Facts) (x : World) (r : Ready m k i x p q) where
  abbrev pub SameReady : (now : Facts) (y : World) → Ready m now i y p q → Type 0
  SameReady now y s = SameFrame m k now i x y r.stands.is s.stands.is

  pub ready_still : (now : Facts) (y : World) → (sides m).leaves i k now x y → HoldTheSame m now i y p q
      → (s : Ready m now i y p q) × SameReady now y s
  ready_still now y leaves hold =
      let still = b.stands_later k now i x y [] Awaited p q r.stands leaves hold in (
        record {
          stands = still.0;
          pc = r.pc ∙ sym (ap (λ n. place_of m n still.0.is.function p.frame.pc) still.1.number
              ∙ ap (λ f. place_of m r.stands.is.number f p.frame.pc) still.1.function);
          spare = subst (λ f. word_at q.frame.words (pos (spare_of m now i y f)) ≡ Found (Refer None)) (sym still.1.function) r.spare;
          none_made = r.none_made;
        },
        still.1,
      )

  -- the row of one instruction goes, if it does so wherever the two are ready, with the same known
  pub once : HoldTheSame m k i x p q
      → ((now : Facts) (w : Shared) (y : World) (s : Ready m now i y p q) → SameReady now y s → HoldTheSame m now i y p q
      → (sides m).worlds now w y → Once m b i p q now w y)
      → RowGoes m k i x p q
  once h does = (0, (h, λ now y w l h e. let s = ready_still now y l h in does now w y s.0 s.1 h e))
