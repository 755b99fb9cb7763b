-- The size of a value goes into the frame, in front of the instruction that moves it, at each stage.
use Rattle.std.proofs.Common.{ℕ, suc, ◌*◌, ◌≤◌, List, [], ◌∷◌, refl, ◌∙◌, arith}
use Rattle.heap_model.proofs.Growing.{grows_same}
use Rattle.limbo_types.specs.Types.{Ty}
use Rattle.limbo_layout.specs.Layout.{limit}
use Rattle.limbo_typed.specs.Typed as typed
use Rattle.limbo_meaning.specs.Process.{Shared}
use Rattle.core_code.specs.Machine as code
use Rattle.core_typing.specs.Held as held
use Rattle.dis_meaning.specs.Words.{Word}
use Rattle.dis_meaning.specs.Process.{Process}
use Rattle.dis_memory.specs.Blocks.{World}
use Rattle.value_words.specs.Facts.{Facts, Grows}
use Rattle.value_frames.specs.Frames.{room_for, spare_place}
use Rattle.value_code.specs.Objects.{object_of}
use Rattle.number_effects.specs.Stepping.{Reaches}
use Rattle.value_follows.specs.Stands.{types_of}
use Rattle.value_follows.specs.Sides.{sides}
use Rattle.value_follows.specs.Rows.{Base}
use Rattle.value_follows.proofs.Single.{nothing_changes}
use Rattle.rows_dropping.proofs.Moving.{size_inst}
use Rattle.rows_dropping.proofs.Passing.{link_steps, has_size, process_link, way_link, mine_link, link_same, same_word}
use Rattle.rows_dropping.proofs.Got.{got_on}
use Rattle.rows_dropping.proofs.Stages.{Comes}
use Rattle.rows_dropping.proofs.Picking.{Picks, instr, u, into_new, both_got, sized, IsNew}

module _ (m : typed.Module) (b : Base m) (i : ℕ) (p : code.Process) (t : Ty) (n into from : ℕ) (known : held.Slots) (a : Picks m p t n into from known)
    (z : Ty) (small : (room_for m.adts z).size ≤ 4 * limit) (far : ℕ) (k : Facts) (w : Shared) (x : World) (q : Process)
    (worlds : (sides m).worlds k w x) (reaches : Reaches (object_of m ∷ []) x q (object_of m) (size_inst m.adts z)) where
  pub into_sized : (into_new m b i p t n into from known a).at far k x q
      → Comes m b i p (instr m b i p t n into from known a) a.here known (into ∷ []) from a.whole
      ((sized m b i p t n into from known a (into_new m b i p t n into from known a) z).at (suc far)) k w x q
  into_sized s = record {
    now = k;
    world = x;
    process = process_link m i p known (into ∷ []) far k x q s.way z small;
    goes = link_steps m i p known (into ∷ []) far k x q s.way z small reaches;
    changes = nothing_changes m k i x;
    worlds = worlds;
    after = (
      record {
        way = way_link m i p known (into ∷ []) far k x q s.way z small w worlds;
        mine = mine_link m i p known (into ∷ []) far k x q s.way z small w worlds _ (IsNew m b i p t n into from known a t) (omega arith) s.mine;
        spare = link_same m i p known (into ∷ []) far k x q s.way z small (spare_place m.adts (types_of m s.way.stands.is.function)) (omega arith) ∙ s.spare;
      },
      has_size m i p known (into ∷ []) far k x q s.way z small,
    );
  }

  module _ (part_live : List ℕ) (so_far : Facts → List Word → Type 0) (grows : (k now : Facts) (ws : List Word) → Grows k now → so_far k ws → so_far now ws) where
    pub both_sized : (both_got m b i p t n into from known a part_live so_far grows).at far k x q
        → Comes m b i p (instr m b i p t n into from known a) a.here known (into ∷ []) from a.whole
        ((sized m b i p t n into from known a (both_got m b i p t n into from known a part_live so_far grows) z).at (suc far)) k w x q
    both_sized s = record {
      now = k;
      world = x;
      process = process_link m i p known (into ∷ []) far k x q s.spares.way z small;
      goes = link_steps m i p known (into ∷ []) far k x q s.spares.way z small reaches;
      changes = nothing_changes m k i x;
      worlds = worlds;
      after = (
        record {
          spares = record {
            way = way_link m i p known (into ∷ []) far k x q s.spares.way z small w worlds;
            mine = mine_link m i p known (into ∷ []) far k x q s.spares.way z small w worlds _ so_far (omega arith) s.spares.mine;
          };
          got = got_on m i p into t part_live (u m b i p t n into from known a) s.spares.way.stands.is.function k k x x q
              (process_link m i p known (into ∷ []) far k x q s.spares.way z small) refl (grows_same k)
              (λ v h. same_word m i p known (into ∷ []) far k x q s.spares.way z small v (λ e. let low = h.0 in let high = h.1 in absurd (omega (arith, e, low, high)))) s.got;
        },
        has_size m i p known (into ∷ []) far k x q s.spares.way z small,
      );
    }
