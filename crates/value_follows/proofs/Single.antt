-- Rows of one instruction of the machine.
use Rattle.std.proofs.Common.{◌≡◌, ℕ, refl, sym, subst, arith}
use Rattle.process_model.specs.Process.{Went, Ends}
use Rattle.process_model.proofs.Quiet.{quiets_none}
use Rattle.system_model.specs.Ending.{Ending}
use Rattle.process_model.specs.Follows.{Only}
use Rattle.limbo_typed.specs.Typed as typed
use Rattle.limbo_meaning.specs.Process.{Shared}
use Rattle.core_code.specs.Machine as code
use Rattle.dis_meaning.specs.Process.{Process}
use Rattle.dis_memory.specs.Blocks.{World}
use Rattle.process_ways.specs.Ways.{Does}
use Rattle.process_ways.proofs.On.{stepped}
use Rattle.value_words.specs.Facts.{Facts}
use Rattle.value_follows.specs.Stands.{Ready}
use Rattle.value_follows.specs.Sides.{sides, HoldTheSame}
use Rattle.value_follows.specs.Rows.{place, RowGoes, Base}

-- nothing changes
pub nothing_changes : (m : typed.Module) (k : Facts) (i : ℕ) (x : World) → (sides m).changes (Only i) k k x x
nothing_changes m k i x = (
  record {
    grows = record { facts = λ n f e. e; makers = λ n j e. e; forms = λ n o e. e };
    there = λ q b e. (b, e);
    free = λ q j f e no. (refl, refl);
    carriers = λ q b e. refl;
  },
  omega arith,
)

module _ (m : typed.Module) (b : Base m) (i : ℕ) (p : code.Process) (q : Process) where
  -- What the row's one instruction does, as the row asks it.
  abbrev pub Once : Facts → Shared → World → Type 0
  Once k w x = Does (sides m) (place m) (λ l z r t. (sides m).ready l i z r t) (place m q) k i w x p ((sides m).code.step x q)

  -- the row goes, if it does so wherever the two are ready
  pub single : (k : Facts) (x : World) → (sides m).ready k i x p q
      → ((now : Facts) (w : Shared) (y : World) → Ready m now i y p q → HoldTheSame m now i y p q → (sides m).worlds now w y → Once now w y)
      → RowGoes m k i x p q
  single k x r does = (0, (r.1, λ now y w l h e. does now w y (b.ready_later k now i x y p q r.0 l h).0 h e))

  -- both go on, in the worlds as they were
  pub both_go : (k : Facts) (w : Shared) (x : World) → HoldTheSame m k i x p q → (sides m).worlds k w x → (r : code.Process) (s : Process)
      → (sides m).code.step x q ≡ Went x s → (sides m).program.step w p ≡ Went w r → Ready m k i x r s → Once k w x
  both_go k w x hold worlds r s e f ready =
      stepped (sides m) (place m) (λ l z r t. (sides m).ready l i z r t) k k i w x x p q s e (nothing_changes m k i x) w r f worlds
      (ready, b.holds_again k i w x r s ready worlds (b.there_again x x q s e worlds.0.closed (λ n h. hold.same.live n (hold.same.roots n h))))

  -- both end alike
  pub both_end : (k : Facts) (w : Shared) (x : World) → (sides m).worlds k w x → (how : Ending) → (sides m).code.step x q ≡ Ends x how
      → (sides m).program.step w p ≡ Ends w how → Once k w x
  both_end k w x worlds how e f =
      subst (λ d. Does (sides m) (place m) (λ l z r t. (sides m).ready l i z r t) (place m q) k i w x p d) (sym e) (record {
        now = k;
        changes = nothing_changes m k i x;
        world = w;
        comes = record { steps = 0; world = w; before = p; quiets = quiets_none (sides m).program (sides m).naming w p; does = f };
        worlds = worlds;
      })
