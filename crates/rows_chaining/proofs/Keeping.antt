-- A region is kept, whatever is in the loop's chain.
use Rattle.std.proofs.Common.{◌≡◌, ℕ, suc, ◌+◌, ◌*◌, ◌/◌, ◌<◌, List, [], Some, refl, ◌∙◌, subst, arith}
use Rattle.std.specs.Prelude.{slice_get}
use Rattle.process_ways.specs.Ways.{Way}
use Rattle.limbo_types.specs.Types.{Ty}
use Rattle.limbo_layout.specs.Adts.{Has}
use Rattle.limbo_typed.specs.Typed as typed
use Rattle.core_code.specs.Code.{Keep}
use Rattle.core_code.specs.Machine as code
use Rattle.core_code.specs.Slots as core
use Rattle.core_code.specs.Slots.{Regions, NoRegion, MoreRegions, chain_of}
use Rattle.dis_meaning.specs.Words.{Word, Refer}
use Rattle.dis_meaning.specs.Process.{Process}
use Rattle.dis_memory.specs.Blocks.{World}
use Rattle.value_words.specs.Facts.{Facts}
use Rattle.value_words.proofs.Bytes.{word_found}
use Rattle.value_heaps.proofs.Words.{named_by}
use Rattle.value_frames.specs.Frames.{spare_place, number_place}
use Rattle.value_follows.specs.Stands.{types_of}
use Rattle.value_follows.specs.Sides.{sides, HoldTheSame}
use Rattle.value_follows.specs.Rows.{place, Base, RowGoes}
use Rattle.rows_lists.proofs.OnTheWay.{on_way, on_ready}
use Rattle.rows_chaining.specs.Rows.{AreBare, KeepsGo}
use Rattle.rows_chaining.proofs.Making.{Fresh, turn_words, makes}
use Rattle.rows_chaining.proofs.Filling.{Filled, fills}
use Rattle.rows_chaining.proofs.Carrying.{made_stays, over_kept, filled_later}
use Rattle.rows_chaining.proofs.Clearing.{Remade, Cleared, remakes, clears, remade_later}
use Rattle.rows_chaining.proofs.Keeps.{at_four}
use Rattle.rows_chaining.proofs.Behind.{four_one, four_more}

module _ (m : typed.Module) (b : Base m) (loop from words i : ℕ) (p : code.Process) (n : ℕ) (f : typed.Function)
    (here : slice_get p.frame.code p.frame.pc ≡ Some (Keep loop from words)) (bare : AreBare p from words) where
  abbrev types : List Ty
  types = types_of m f

  abbrev to : ℕ
  to = number_place m.adts types from

  abbrev spare_at : ℕ
  spare_at = spare_place m.adts types

  -- From where the region's slots are blank there is a way of so many instructions.
  abbrev FourAt : ℕ → Type 0
  FourAt l = (c : ℕ) (inner : List Word) (k : Facts) (x : World) (q : Process) → Cleared m b loop from words i p n f here bare 4 c inner k x q
      → HoldTheSame m k i x p q → Way (sides m) (place m) l k i x p q

  fresh_later : (c : ℕ) (ws : List Word) (k now : Facts) (x y : World) (q : Process) → (sides m).leaves i k now x y → HoldTheSame m now i y p q
      → Fresh m b loop from words i p n f here [] 1 c ws k x q → Fresh m b loop from words i p n f here [] 1 c ws now y q
  fresh_later c ws k now x y q left hold t =
      let o = over_kept m i p q b k now x y left hold [] n f 1 (Some c) t.over in
      let named = named_by q.frame.words (spare_at / 4) c (word_found q.frame.words spare_at (Refer (Some c)) t.over.spare).1 in
      let kept = made_stays m i p k now x y q left hold c (omega (arith, named)) t.unknown t.made in
      record {
        over = o.0;
        there = kept.1 ∙ t.there;
        unknown = kept.0;
        made = left.0.grows.makers c i t.made;
        formed = left.0.grows.forms c _ t.formed;
        older = λ s d h. t.older s d (subst (λ (own : ℕ → List ℕ). Has (own s) d) o.1 h);
      }

  module _ (l : ℕ) (four : FourAt l) where
    at_three : (c : ℕ) (inner : List Word) (d : ℕ) (k : Facts) (x : World) (q : Process) → Remade m b loop from words i p n f here bare c inner d k x q
        → HoldTheSame m k i x p q → Way (sides m) (place m) (suc l) k i x p q
    at_three c inner d k x q t hold = (
      hold,
      λ now y w left h worlds.
          clears m b loop from words i p n f here bare now w y q c inner d (remade_later m b loop from words i p n f here bare c inner d k now x y q left h t) h
          worlds l (λ r s g. four c inner now y r s g),
    )

    at_two : (c : ℕ) (inner : List Word) (k : Facts) (x : World) (q : Process) → Filled m b loop from words i p n f here bare [] 2 c inner k x q
        → ((j : ℕ) → j < 2 * words → slice_get inner (8 / 4 + j) ≡ slice_get q.frame.words (to / 4 + j)) → HoldTheSame m k i x p q
        → Way (sides m) (place m) (suc (suc l)) k i x p q
    at_two c inner k x q t same hold = (
      hold,
      λ now y w left h worlds.
          remakes m b loop from words i p n f here bare now w y q c inner (filled_later m b loop from words i p n f here bare [] 2 c inner k now x y q left h t)
          same h worlds (suc l) (λ later z d r s g. at_three c inner d later z r s g),
    )

    at_one : (c : ℕ) (k : Facts) (x : World) (q : Process) → Fresh m b loop from words i p n f here [] 1 c (turn_words words) k x q → HoldTheSame m k i x p q
        → Way (sides m) (place m) (suc (suc (suc l))) k i x p q
    at_one c k x q t hold = (
      hold,
      λ now y w left h worlds.
          fills m b loop from words i p n f here bare now w y q c (fresh_later c (turn_words words) k now x y q left h t) h worlds (suc (suc l))
          (λ c inner z r s same g. at_two c inner now z r s same g),
    )

pub keeps_go : KeepsGo
keeps_go m b loop from words k i x p q ready here bare = go (chain_of (core.slot p.frame.slots loop)) refl
  where
    n : ℕ
    n = ready.0.stands.is.number

    f : typed.Function
    f = ready.0.stands.is.function

    by_four : (l : ℕ) → FourAt m b loop from words i p n f here bare l → RowGoes m k i x p q
    by_four l four = (
      suc (suc (suc l)),
      on_way m b i p q [] n f 0 (suc (suc (suc l))) k x (on_ready m i p q k x ready.0) ready.1 (λ now w y grows on hold worlds.
          makes m b loop from words i p n f here now w y q on hold worlds (suc (suc (suc l))) (λ later z c r s g.
          at_one m b loop from words i p n f here bare l four c later z r s g)),
    )

    go : (rs : Regions) → chain_of (core.slot p.frame.slots loop) ≡ rs → RowGoes m k i x p q
    go NoRegion e = by_four 3 (λ c inner now y r t hold. at_four m b loop from words i p n f here bare e c inner now y r t hold)
    go (MoreRegions g NoRegion) e =
        by_four 6 (λ c inner now y r t hold. four_one m b loop from words i p n f here bare g NoRegion e refl c inner now y r t hold)
    go (MoreRegions g (MoreRegions g2 rest2)) e =
        by_four 8 (λ c inner now y r t hold.
        four_more m b loop from words i p n f here bare g (MoreRegions g2 rest2) e g2 rest2 refl c inner now y r t hold)
