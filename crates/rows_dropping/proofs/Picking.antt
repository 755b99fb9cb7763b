-- A part of a slot's value moves into another slot: what is said on the way.
use Rattle.std.proofs.Common.{◌≡◌, ℕ, pos, ◌*◌, ◌<◌, ◌≤◌, true, List, [], ◌∷◌, ◌++◌, length, Option, Some, None}
use Rattle.std.proofs.Common.{sym, ap, ◌∙◌, subst, arith, inl, inr}
use Rattle.std.specs.Prelude.{slice_get}
use Rattle.heap_model.specs.Heap.{at, there}
use Rattle.limbo_types.specs.Types.{Ty}
use Rattle.limbo_layout.specs.Adts.{Has}
use Rattle.limbo_layout.specs.Layout.{Laid, limit}
use Rattle.limbo_typed.specs.Typed as typed
use Rattle.limbo_meaning.specs.Process.{Shared}
use Rattle.limbo_meaning.specs.Values.{Value, Values, Parts, references, among, fitted}
use Rattle.limbo_meaning.specs.Origins.{Name}
use Rattle.limbo_meaning.specs.Places.{value_part}
use Rattle.core_code.specs.Code.{Instr, Pick}
use Rattle.core_code.specs.Machine as code
use Rattle.core_code.specs.Slots as core
use Rattle.core_code.specs.Slots.{Holds}
use Rattle.core_code.specs.Terms.{part_types}
use Rattle.core_follows.proofs.Picks.{Taken}
use Rattle.core_typing.specs.Held as held
use Rattle.core_typing.specs.Held.{Of, type_held}
use Rattle.dis_meaning.specs.Words.{Word, Refer, Found, word_at}
use Rattle.dis_meaning.specs.Process.{Process}
use Rattle.dis_memory.specs.Blocks.{World}
use Rattle.value_words.specs.Facts.{Facts, Grows}
use Rattle.value_roots.specs.Accounts.{Accounted, to_nothing}
use Rattle.value_roots.proofs.Words.{has_counts}
use Rattle.value_frames.specs.Frames.{Boxed, form_of, room_for, reference_place, spare_place, type_within}
use Rattle.value_frames.specs.Standing.{NamesOnly, RefersIdly}
use Rattle.value_stores.specs.Paths.{HasPath}
use Rattle.value_code.specs.Objects.{of_function, or_nothing, told_at}
use Rattle.value_follows.specs.Stands.{types_of}
use Rattle.value_follows.specs.Rooted.{PlaceAccounted}
use Rattle.value_follows.specs.Sides.{sides, HoldTheSame}
use Rattle.value_follows.specs.Rows.{Base, AreThere}
use Rattle.value_follows.proofs.Standing.{same_some}
use Rattle.value_follows.proofs.Waiting.{idly_later}
use Rattle.value_follows.proofs.RootedValues.{among_join}
use Rattle.value_follows.proofs.RootedSlots.{IsWhole, idly_accounted}
use Rattle.rows_dropping.proofs.Dropping.{agrees}
use Rattle.rows_dropping.proofs.Spare.{OnWay, Mine, way_later, mine_later}
use Rattle.rows_dropping.proofs.Making.{mine_accounted, holds}
use Rattle.rows_dropping.proofs.Sparing.{new_words}
use Rattle.rows_dropping.proofs.Boxes.{Boxes}
use Rattle.rows_dropping.proofs.Boxed.{named_by_process}
use Rattle.rows_dropping.proofs.Moving.{HasSize}
use Rattle.rows_dropping.proofs.Got.{HasGot, has_later, has_holds, BothGot, both_later, both_hold}
use Rattle.rows_dropping.proofs.Stages.{Stage}
use Rattle.rows_dropping.proofs.Steps.{in_code}

-- What is known of such an instruction, wherever the machine's process is in its row.
pub record Picks (m : typed.Module) (p : code.Process) (t : Ty) (n into from : ℕ) (known : held.Slots) : Type 0 where
  pub here : slice_get p.frame.code p.frame.pc ≡ Some (Pick t n into from)
  pub apart : into ≡ from → ⊥
  pub below_into : into < length p.frame.slots
  pub below_from : from < length p.frame.slots
  pub whole : Ty
  pub form : form_of whole ≡ Boxed
  pub known_so : type_held (held.slot known from) ≡ Some whole
  pub laid : Laid m.adts whole (room_for m.adts whole)
  pub small : (room_for m.adts whole).size ≤ limit
  pub path : HasPath m.adts whole (n ∷ [])
  pub ends : type_within m.adts whole (n ∷ []) ≡ t
  pub part_laid : Laid m.adts t (room_for m.adts t)
  pub part_small : (room_for m.adts t).size ≤ 4 * limit
  pub values : Values
  pub holds_so : core.slot p.frame.slots from ≡ Holds (Parts values)
  pub live : List ℕ
  pub live_so : held.slot known from ≡ Of whole live
  pub names : NamesOnly live (Parts values)
  pub taken : Taken m.adts (part_types m.adts whole) values n
  pub fits : value_part n values ≡ fitted m.adts t (value_part n values)
  -- what the slot has into which the part comes names nothing
  pub unnamed : (c : ℕ) → core.slot_names (core.slot p.frame.slots into) c ≡ 0

module _ (m : typed.Module) (b : Base m) (i : ℕ) (p : code.Process) (t : Ty) (n into from : ℕ) (known : held.Slots) (a : Picks m p t n into from known) where
  abbrev pub instr : Instr
  instr = Pick t n into from

  abbrev pub v : Value
  v = Parts a.values

  abbrev pub u : Value
  u = value_part n a.values

  pub named_v : (c : ℕ) → Name (references v) c → 0 < code.process_names p c
  named_v c h = named_by_process p from v a.holds_so c h

  pub named_u : (c : ℕ) → Name (references u) c → 0 < code.process_names p c
  named_u c h =
      let x = a.taken in
      let e = ap (λ rs. among c rs) x.now in
      let f = among_join c x.front (references u ++ x.behind) in
      let g = among_join c (references u) x.behind in
      named_v c (omega (arith, h, e, f, g))

  pub told_way : (busy : List ℕ) (far : ℕ) (k : Facts) (x : World) (q : Process) (s : OnWay m i p known busy far k x q)
      → told_at m s.stands.is.function.of.answer (of_function m s.stands.is.function) p.frame.pc from ≡ a.whole
  told_way busy far k x q s =
      let f = s.stands.is.function in
      let told = agrees m f p.frame.pc s.stands.is.known instr s.stands.goes (in_code m b i p instr a.here known busy far k x q s) in
      ap or_nothing told.2
      ∙ same_some told.0 a.whole (sym told.1 ∙ (ap (λ (h : held.Slots). type_held (held.slot h from)) s.known_so ∙ a.known_so))

  pub from_idle : Has (into ∷ []) from → ⊥
  from_idle (inl e) = a.apart e
  from_idle (inr e) = e

  abbrev pub StageOf : Type 1
  StageOf = Stage m b i p instr a.here known (into ∷ []) from a.whole

  abbrev pub spare_in : {far : ℕ} {k : Facts} {x : World} {q : Process} → OnWay m i p known (into ∷ []) far k x q → ℕ
  spare_in s = spare_place m.adts (types_of m s.stands.is.function)

  abbrev pub into_in : {far : ℕ} {k : Facts} {x : World} {q : Process} → OnWay m i p known (into ∷ []) far k x q → ℕ
  into_in s = reference_place m.adts (types_of m s.stands.is.function) into

  abbrev pub IsNew : Ty → Facts → List Word → Type 0
  IsNew z k ws = ws ≡ new_words m.adts z

  abbrev pub Has_of : Ty → Value → Facts → List Word → Type 0
  Has_of z y k ws = Boxes m.adts z k ws y

  -- ---- nothing has been done

  pub record Starts (far : ℕ) (k : Facts) (x : World) (q : Process) : Type 0 where
    pub way : OnWay m i p known (into ∷ []) far k x q
    pub idle : RefersIdly m.adts k q.frame.words (into_in way)
    pub spare : word_at q.frame.words (pos (spare_in way)) ≡ Found (Refer None)

  -- A record is made for the part, and the spare word refers to nothing.
  pub record IntoNew (far : ℕ) (k : Facts) (x : World) (q : Process) : Type 0 where
    pub way : OnWay m i p known (into ∷ []) far k x q
    pub mine : Mine m i p way.stands.is.words.own (into_in way) (IsNew t) k x q
    pub spare : word_at q.frame.words (pos (spare_in way)) ≡ Found (Refer None)

  none_refers : (ws : List Word) (at : ℕ) (r : Option ℕ) → word_at ws (pos at) ≡ Found (Refer None) → word_at ws (pos at) ≡ Found (Refer r) → None ≡ r
  none_refers ws at r e g = let z : Found (Refer None) ≡ Found (Refer r) = sym e ∙ g in cc

  leads_none : (s c : ℕ) → Has (into ∷ []) s → 0 < core.slot_names (core.slot p.frame.slots s) c → ⊥
  leads_none s c (inl e) h =
      let z = a.unnamed c in
      let h' = subst (λ r. 0 < core.slot_names (core.slot p.frame.slots r) c) (sym e) h in omega (arith, z, h')
  leads_none s c (inr e) h = e

  module _ (far : ℕ) (k : Facts) (w : Shared) (x : World) (q : Process) (worlds : (sides m).worlds k w x) (live : AreThere m x q) where
    whole_so : IsWhole k x.heap
    whole_so = record { carriers = λ c d y e g. (worlds.0.carriers c d y e g).0; closed = worlds.0.closed.closed }

    all_there : (c : ℕ) → Has q.frame.words (Refer (Some c)) → there (at x.heap c) ≡ true
    all_there c h = let y = has_counts q.frame.words c h in live c (omega (arith, y))

    pub idle_so : (place : ℕ) → RefersIdly m.adts k q.frame.words place → PlaceAccounted m k i x (code.process_names p) q.frame place
    idle_so place h None e = to_nothing
    idle_so place h (Some c) e = idly_accounted m.adts k x.heap whole_so i (code.process_names p) q.frame.words place c all_there h e

    one_slot : (s : OnWay m i p known (into ∷ []) far k x q) → PlaceAccounted m k i x (code.process_names p) q.frame (into_in s) → (r : ℕ)
        → Has (into ∷ []) r
        → PlaceAccounted m k i x (code.process_names p) q.frame (reference_place m.adts (types_of m s.stands.is.function) r)
    one_slot s h r (inl e) =
        subst (λ r. PlaceAccounted m k i x (code.process_names p) q.frame (reference_place m.adts (types_of m s.stands.is.function) r)) e h
    one_slot s h r (inr e) = absurd e

    pub held_so : (s : OnWay m i p known (into ∷ []) far k x q) → PlaceAccounted m k i x (code.process_names p) q.frame (into_in s)
        → word_at q.frame.words (pos (spare_in s)) ≡ Found (Refer None) → HoldTheSame m k i x p q
    held_so s h spare =
        holds m i p k x q b w known (into ∷ []) far s worlds live (one_slot s h)
        (λ r e. subst (λ o. Accounted k i x.heap (code.process_names p) (Refer o)) (none_refers q.frame.words (spare_in s) r spare e) to_nothing)
        (λ s c h l. absurd (leads_none s c h l))

  abbrev pub starts : StageOf
  starts = record {
    at = Starts;
    way = λ far k x q s. s.way;
    told = λ far k x q s number at. told_way (into ∷ []) far k x q s.way;
    later = λ far k now x y q s left hold.
        let way = way_later m i p b k now x y q left hold known (into ∷ []) far s.way in
        record {
          way = way.0;
          idle = subst (λ f. RefersIdly m.adts now q.frame.words (reference_place m.adts (types_of m f) into)) (sym way.1.function)
              (idly_later m.adts k now left.0.grows q.frame.words (into_in s.way) s.idle);
          spare = subst (λ f. word_at q.frame.words (pos (spare_place m.adts (types_of m f))) ≡ Found (Refer None)) (sym way.1.function) s.spare;
        };
    holds = λ far k w x q s worlds live. held_so far k w x q worlds live s.way (idle_so far k w x q worlds live (into_in s.way) s.idle) s.spare;
  }

  abbrev pub into_new : StageOf
  into_new = record {
    at = IntoNew;
    way = λ far k x q s. s.way;
    told = λ far k x q s number at. told_way (into ∷ []) far k x q s.way;
    later = λ far k now x y q s left hold.
        let way = way_later m i p b k now x y q left hold known (into ∷ []) far s.way in
        record {
          way = way.0;
          mine = mine_later m i p b k now x y q left hold s.way.stands.is.words.own way.0.stands.is.words.own (into_in s.way) (into_in way.0) (IsNew t)
              (λ ws h. h) way.1.own (ap (λ f. reference_place m.adts (types_of m f) into) way.1.function) s.mine;
          spare = subst (λ f. word_at q.frame.words (pos (spare_place m.adts (types_of m f))) ≡ Found (Refer None)) (sym way.1.function) s.spare;
        };
    holds = λ far k w x q s worlds live. held_so far k w x q worlds live s.way
        (mine_accounted m i p k x q s.way.stands.is.words.own (into_in s.way) (IsNew t) s.mine) s.spare;
  }

  -- ---- the part has come into its slot

  module _ (part_live : List ℕ) where
    abbrev pub has_got : StageOf
    has_got = record {
      at = HasGot m i p into t part_live u known;
      way = λ far k x q s. s.way;
      told = λ far k x q s number at. told_way (into ∷ []) far k x q s.way;
      later = λ far k now x y q s left hold. has_later m i p into t part_live u b known far k now x y q s left hold;
      holds = λ far k w x q s worlds live. has_holds m i p into t part_live u b a.unnamed named_u k w x q worlds live known far s;
    }

    -- and the spare word refers to a record
    abbrev pub both_got : (so_far : Facts → List Word → Type 0) → ((k now : Facts) (ws : List Word) → Grows k now → so_far k ws → so_far now ws) → StageOf
    both_got so_far grows = record {
      at = BothGot m i p into t part_live u so_far known;
      way = λ far k x q s. s.spares.way;
      told = λ far k x q s number at. told_way (into ∷ []) far k x q s.spares.way;
      later = λ far k now x y q s left hold. both_later m i p into t part_live u b so_far grows known far k now x y q s left hold;
      holds = λ far k w x q s worlds live. both_hold m i p into t part_live u b a.unnamed named_u k w x q worlds live so_far known far s;
    }

  -- The size of a value of a type stands in the frame besides.
  abbrev pub sized : StageOf → Ty → StageOf
  sized s z = record {
    at = λ far k x q. s.at far k x q × HasSize m.adts z q;
    way = λ far k x q h. s.way far k x q h.0;
    told = λ far k x q h number at. s.told far k x q h.0 number at;
    later = λ far k now x y q h left hold. (s.later far k now x y q h.0 left hold, h.1);
    holds = λ far k w x q h worlds live. s.holds far k w x q h.0 worlds live;
  }
