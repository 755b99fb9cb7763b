-- Operands behind the first: two that are ready are at the begin of a row, where the record is on its way.
use Rattle.std.proofs.Common.{◌≡◌, ◌+◌, ◌⊎◌, ℕ, suc, ◌<◌, Bool, true, false, List, [], ◌∷◌, ◌++◌, length, Option, Some, refl, sym, ap, subst}
use Rattle.std.proofs.Common.{◌∙◌, arith, inl, inr, if◌then◌else◌}
use Rattle.std.specs.Prelude.{slice_get, nat_eq}
use Rattle.std.proofs.lemmas.Bool.Decides.{eqb_tells}
use Rattle.heap_model.specs.Heap.{Heap}
use Rattle.limbo_types.specs.Types as ty
use Rattle.limbo_types.specs.Types.{Ty}
use Rattle.limbo_layout.specs.Adts.{Def, Has}
use Rattle.limbo_typed.specs.Typed as typed
use Rattle.limbo_typed.specs.Fitting.{HasPart}
use Rattle.limbo_meaning.specs.Values.{Value}
use Rattle.core_code.specs.Machine as code
use Rattle.core_code.specs.Slots as core
use Rattle.core_code.specs.Slots.{Slot, Forms, slot_names}
use Rattle.core_typing.specs.Held as held
use Rattle.core_typing.specs.Held.{Held, Forming, type_held, with_operand, parts_in}
use Rattle.core_typing.specs.Needs.{StandsAs}
use Rattle.dis_meaning.specs.Words.{Word}
use Rattle.dis_meaning.specs.Process.{Process}
use Rattle.dis_memory.specs.Blocks.{Block, World}
use Rattle.value_words.specs.Facts.{Facts}
use Rattle.value_frames.specs.Frames.{Form, Nowhere, AsNumber, AsReference, Boxed, form_of, number_place, reference_place, box_bytes, room_for, within}
use Rattle.value_frames.specs.Standing.{SlotStands, WordsAre, Single, IsOwn, IsForming}
use Rattle.value_frames.proofs.Rest.{slots_rest}
use Rattle.dis_isa.specs.declared.inst.Inst.{Inst}
use Rattle.dis_isa.specs.declared.inst.Operand as isa
use Rattle.value_moves.specs.Operands.{Code, moved}
use Rattle.value_code.specs.Code.{Site, at_least, emptied}
use Rattle.value_code.specs.Data.{OfRecord}
use Rattle.value_code.specs.Operands.{in_slot, in_box}
use Rattle.value_code.specs.Works.{jump_to}
use Rattle.rows_forming.proofs.Lacking.{jump_goes}
use Rattle.value_code.specs.Objects.{of_function, blank_site}
use Rattle.value_follows.specs.Stands.{types_of, Ready, place_of}
use Rattle.value_follows.specs.Sides.{HoldTheSame}
use Rattle.value_follows.specs.Rows.{Base, RowGoes}
use Rattle.value_follows.proofs.Slots.{slot_is, uses}
use Rattle.value_follows.proofs.Standing.{finds, code_here}
use Rattle.rows_forming.specs.Rows.{LaterPlacesGo, IsApt, IsSmall, part_of}
use Rattle.rows_forming.proofs.Builds.{Builds, builds_way}
use Rattle.rows_forming.proofs.Placing.{instr, Task}
use Rattle.rows_forming.proofs.Putting.{part_type, slot_among}
use Rattle.rows_forming.proofs.SoFar.{so_far, forming_so}
use Rattle.rows_forming.proofs.Ways.{way_from, site_now, tail_of, code_now}
use Rattle.rows_forming.proofs.Moving.{Moving, at_once, behind_size, moving, size_inst}

among : (ks : List ℕ) (k : ℕ) → Has ks k → held.Has ks k
among [] k h = absurd h
among (n ∷ ns) k (inl e) = inl e
among (n ∷ ns) k (inr h) = inr (among ns k h)

-- ---- a slot gives away what it has

same_self : (n : ℕ) → nat_eq n n ≡ true
same_self n = elim (eqb_tells n n) [ inl y ↦ y.0 | inr y ↦ absurd (y.1 refl) ]

other_not : (r s : ℕ) → (r ≡ s → ⊥) → nat_eq r s ≡ false
other_not r s ne = elim (eqb_tells r s) [ inl y ↦ absurd (ne y.1) | inr y ↦ y.0 ]

abbrev given_away : (into : ℕ) → (ℕ → List ℕ) → ℕ → List ℕ
given_away into own s = if nat_eq s into then [] else own s

away_here : (into : ℕ) (own : ℕ → List ℕ) → given_away into own into ≡ []
away_here into own = ap (λ (b : Bool). if b then [] else own into) (same_self into)

away_there : (into : ℕ) (own : ℕ → List ℕ) (s : ℕ) → (s ≡ into → ⊥) → given_away into own s ≡ own s
away_there into own s ne = ap (λ (b : Bool). if b then [] else own s) (other_not s into ne)

away_has : (into : ℕ) (own : ℕ → List ℕ) (s c : ℕ) → Has (given_away into own s) c → (s ≡ into → ⊥) × Has (own s) c
away_has into own s c h = elim (eqb_tells s into) [
  | inl y ↦ absurd (subst (λ (b : Bool). Has (if b then [] else own s) c) y.0 h)
  | inr y ↦ (y.1, subst (λ (b : Bool). Has (if b then [] else own s) c) y.0 h)
]

away_single : (into : ℕ) (own : ℕ → List ℕ) (s : ℕ) → Single (own s) → Single (given_away into own s)
away_single into own s h = go (nat_eq s into)
  where
    go : (b : Bool) → Single (if b then [] else own s)
    go true = tt
    go false = h

opened_words : (defs : List Def) (k : Facts) (x : Heap Block) (frame : ℕ) (types : List Ty) (known : held.Slots) (vs : List Value)
    (slots : core.Slots) (ws : List Word) (into : ℕ) → (are : WordsAre defs k x frame [] types known vs slots ws)
    → (after : WordsAre defs k x frame (into ∷ []) types known vs slots ws) × (after.own ≡ given_away into are.own)
opened_words defs k x frame types known vs slots ws into are = (
  record {
    laid = are.laid;
    kind = are.kind;
    values = are.values;
    as_many = are.as_many;
    own = given_away into are.own;
    none_past = λ s l. none s (are.none_past s l);
    busy_bare = λ s h. elim h [
      | inl e ↦ subst (λ (r : ℕ). given_away into are.own r ≡ []) e (away_here into are.own)
      | inr e ↦ absurd e
    ];
    each = λ s h l free e g.
        subst (λ (o : List ℕ). SlotStands defs k x frame ws (number_place defs types s) (reference_place defs types s) h l o)
        (sym (away_there into are.own s (λ z. free (inl (sym z))))) (are.each s h l (λ z. z) e g);
    single = λ s. away_single into are.own s (are.single s);
    apart = λ s r c h g. are.apart s r c (away_has into are.own s c h).1 (away_has into are.own r c g).1;
  },
  refl,
)
  where
    none : (s : ℕ) → are.own s ≡ [] → given_away into are.own s ≡ []
    none s e = go (nat_eq s into)
      where
        go : (b : Bool) → (if b then [] else are.own s) ≡ []
        go true = refl
        go false = e

-- ---- code that is there

pub at_least_some : (c : Site) (l : Code) → (l ≡ [] → ⊥) → at_least c l ≡ l
at_least_some c [] ne = absurd (ne refl)
at_least_some c (x ∷ l) ne = refl

none_behind : (x : Inst) (l rest : Code) → (x ∷ l) ++ rest ≡ [] → ⊥
none_behind x l rest e = cc

pub moved_some : (defs : List Def) (t : Ty) → (t ≡ ty.Nothing → ⊥) → (n : ℕ) (a b : isa.Operand) (rest : Code) → moved defs t n a b ++ rest ≡ [] → ⊥
moved_some defs t some n a b rest = go (moving defs t some)
  where
    go : Moving defs t → moved defs t n a b ++ rest ≡ [] → ⊥
    go (at_once move e does) f = none_behind (move n a b) [] rest (ap (λ (l : Code). l ++ rest) (sym (e n a b)) ∙ f)
    go (behind_size move e does) f =
        none_behind (size_inst defs t) (move n a b ∷ []) rest (ap (λ (l : Code). l ++ rest) (sym (e n a b)) ∙ f)

pub nowhere_nothing : (t : Ty) → form_of t ≡ Nowhere → t ≡ ty.Nothing
nowhere_nothing ty.Nothing e = refl
nowhere_nothing ty.Byte e = absurd cc
nowhere_nothing ty.Int e = absurd cc
nowhere_nothing ty.Big e = absurd cc
nowhere_nothing (ty.Tuple ts) e = absurd cc
nowhere_nothing (ty.Adt n) e = absurd cc
nowhere_nothing t e = absurd cc

module _ (m : typed.Module) (t : Ty) (variant : Option ℕ) (j part into from : ℕ) (b : Base m) (i : ℕ) (p : code.Process)
    (here : slice_get p.frame.code p.frame.pc ≡ Some (instr m t variant (suc j) part into from)) (k : Facts) (x : World) (q : Process)
    (ready : Ready m k i x p q) (apt : IsApt m ready.stands.is.known t part into from) where
  abbrev number : ℕ
  number = ready.stands.is.number

  abbrev f : typed.Function
  f = ready.stands.is.function

  abbrev known : held.Slots
  known = ready.stands.is.known

  abbrev n_at : ℕ
  n_at = number_place m.adts (types_of m f) into

  abbrev r_at : ℕ
  r_at = reference_place m.adts (types_of m f) into

  in_code : slice_get (of_function m f).code p.frame.pc ≡ Some (instr m t variant (suc j) part into from)
  in_code = code_here m k i x p q ready (instr m t variant (suc j) part into from) here

  -- What is there so far.
  record Begun : Type 0 where
    task : Task m t variant (suc j) part into from known p
    box : ℕ
    inner : List Word
    own_is : ready.stands.is.words.own into ≡ box ∷ []
    own : IsOwn m.adts k x.heap q.frame.serial q.frame.words r_at (box_bytes m.adts t) (room_for m.adts t).references box inner
    forming : IsForming m.adts k t variant task.ks task.us task.live task.vs inner
    holds : core.slot p.frame.slots into ≡ Forms task.vs

  begun : Begun
  begun =
      let found = finds m f p.frame.pc known (instr m t variant (suc j) part into from) ready.stands.goes in_code in
      let named = uses m k i x [] p.frame q.frame ready.stands.is p.frame.pc (instr m t variant (suc j) part into from) in_code in
      go found.0 found.1 found.3.0 found.3.1 found.3.2 found.4 (elim found.5 [ inl h ↦ absurd (let z = h.0 in omega (arith, z)) | inr h ↦ h ]) named
    where
      go : (u : Ty) → type_held (held.slot known from) ≡ Some u → (w : Ty) → HasPart m.adts t part w → StandsAs u w → (from ≡ into → ⊥)
          → ((ks : List ℕ) × (us : List Ty) × (live : List ℕ) × (held.slot known into ≡ Forming t variant ks us live) × (length us ≡ suc j))
          → (into < length p.frame.slots) × (from < length p.frame.slots) → Begun
      go u e w has fits apart (ks, us, live, so, long) named =
          let own_blocks = ready.stands.is.words.own into in
          let stands = subst (λ (y : Held). SlotStands m.adts k x.heap q.frame.serial q.frame.words n_at r_at y (core.slot p.frame.slots into) own_blocks) so
          (slot_is m k i x [] p.frame q.frame ready.stands.is into named.0 (λ e. e)) in
          let z = slots_rest.is_forming m.adts k x.heap q.frame.serial q.frame.words n_at r_at t variant ks us live (core.slot p.frame.slots into)
          own_blocks stands in
          let same = (part_type m.adts t part w ty.Nothing has).1 in
          record {
            task = record {
              type = u;
              type_is = e;
              has = subst (HasPart m.adts t part) (sym same) has;
              fits = subst (StandsAs u) (sym same) fits;
              safe = apt.1 u e;
              apart = apart;
              few = named.0;
              below = named.1;
              ks = ks;
              us = us;
              live = live;
              vs = z.0;
              so = forming_so m.adts t variant k ks us live z.0 z.3 z.6;
              new = λ h. apt.0 (subst (λ (y : Held). held.Has (parts_in y) part) (sym so) (among ks part h));
              values = ap core.operands_of z.1;
              named = λ n l. subst (λ (y : Slot). 0 < slot_names y n) z.1 l;
              puts = λ ms. ap (λ (y : Held). with_operand t variant part u ms y) so;
            };
            box = z.2;
            inner = z.3;
            own_is = z.4;
            own = z.5;
            forming = z.6;
            holds = z.1;
          }

  builds_first : (s : Begun) → Builds m number f t into 0 s.box s.inner (so_far m.adts t variant s.task.ks s.task.vs) known k i x p q
  builds_first s =
      let are = opened_words m.adts k x.heap q.frame.serial (types_of m f) known p.frame.variables p.frame.slots q.frame.words into
      ready.stands.is.words in
      let box_own : Has (ready.stands.is.words.own into) s.box = subst (λ (bs : List ℕ). Has bs s.box) (sym s.own_is) (inl refl) in
      record {
        stands = record {
          number = ready.stands.number;
          is = record {
            number = number;
            function = f;
            there = ready.stands.is.there;
            code = ready.stands.is.code;
            answer = ready.stands.is.answer;
            many = ready.stands.is.many;
            instance = ready.stands.is.instance;
            formed = ready.stands.is.formed;
            known = known;
            words = are.0;
            mine = λ r c h. ready.stands.is.mine r c
                (away_has into ready.stands.is.words.own r c (subst (λ (o : ℕ → List ℕ). Has (o r) c) are.1 h)).1;
            fresh = ready.stands.is.fresh;
          };
          goes = ready.stands.goes;
          waits = ready.stands.waits;
        };
        number_is = refl;
        function_is = refl;
        known_is = refl;
        pc = (let e = ready.pc in omega (arith, e));
        spare = ready.spare;
        none_made = ready.none_made;
        word = s.own.word;
        there = s.own.there;
        free = s.own.free;
        made = ready.stands.is.mine into s.box box_own;
        formed = s.own.formed;
        kind = s.own.kind;
        is = s.forming.stands;
        apart = λ r h.
            let g = away_has into ready.stands.is.words.own r s.box (subst (λ (o : ℕ → List ℕ). Has (o r) s.box) are.1 h) in
            g.0 (ready.stands.is.words.apart r into s.box g.1 box_own);
        named = λ n l.
            let g = s.forming.names n l in
            let a = slot_among p.frame.slots into n (subst (λ (y : Slot). 0 < slot_names y n) (sym s.holds) g) in
            omega (arith, a);
        leads = λ n l. s.forming.named n (subst (λ (y : Slot). 0 < slot_names y n) s.holds l);
      }

  pub later_goes : (part_of m t part ≡ ty.Nothing → ⊥) → IsSmall m t part → HoldTheSame m k i x p q → RowGoes m k i x p q
  later_goes some small hold =
      let s = begun in
      let row = b.row_stands number f p.frame.pc (instr m t variant (suc j) part into from) ready.stands.is.there in_code in
      let real = at_least_some (site_now m t variant (suc j) part into from b i p here number f ready.stands.is.there in_code row known s.task)
      (tail_of m t variant (suc j) part into from b i p here number f ready.stands.is.there in_code row known s.task
      (site_now m t variant (suc j) part into from b i p here number f ready.stands.is.there in_code row known s.task))
      (moved_some m.adts (part_of m t part) some _ _ _ _) in
      let blank = at_least_some (blank_site m f.of.answer (of_function m f) p.frame.pc)
      (tail_of m t variant (suc j) part into from b i p here number f ready.stands.is.there in_code row known s.task
      (blank_site m f.of.answer (of_function m f) p.frame.pc))
      (moved_some m.adts (part_of m t part) some _ _ _ _) in
      let many = ap (λ (l : Code). length l) blank in
      let way = way_from m t variant (suc j) part into from b i p here number f ready.stands.is.there in_code row known s.task some
      (λ e. some (nowhere_nothing (part_of m t part) e)) small 0
      (ap (λ (l : Code). slice_get l 0) real) (ap (λ (l : Code). slice_get l 1) real) (ap (λ (l : Code). slice_get l 2) real) (omega (arith, many)) in (
        way.0,
        builds_way m number f t into b way.0 0 s.box s.inner (so_far m.adts t variant s.task.ks s.task.vs) known i p q k x (builds_first s) hold
            (λ now w y s' hold' worlds. way.1 s.box s.inner q now w y s' hold' worlds tt),
      )

  -- where the operand has no value the row is a jump
  pub lacking_goes : part_of m t part ≡ ty.Nothing → HoldTheSame m k i x p q → RowGoes m k i x p q
  lacking_goes lacks hold =
      let s = begun in
      let row = b.row_stands number f p.frame.pc (instr m t variant (suc j) part into from) ready.stands.is.there in_code in
      let c = site_now m t variant (suc j) part into from b i p here number f ready.stands.is.there in_code row known s.task in
      let at : slice_get (code_now m t variant (suc j) part into from b i p here number f ready.stands.is.there in_code row known s.task) 0
      ≡ Some (jump_to (place_of m number f (suc p.frame.pc + 0))) =
      ap (λ (u : Ty). slice_get (at_least c (moved c.scene.adts u (c.type_number (OfRecord u)) (in_slot c.scene u from)
      (in_box c.scene into (within c.scene.adts t (part ∷ []))) ++ emptied c.scene (form_of u) from)) 0) lacks in (
        0,
        builds_way m number f t into b 0 0 s.box s.inner (so_far m.adts t variant s.task.ks s.task.vs) known i p q k x (builds_first s) hold
            (λ now w y s' hold' worlds.
            jump_goes m t variant (suc j) part into from b i p here number f ready.stands.is.there in_code row known s.task lacks 0 s.box s.inner q now w y
            s' hold' worlds at),
      )

pub nothing_or : (t : Ty) → (t ≡ ty.Nothing) ⊎ (t ≡ ty.Nothing → ⊥)
nothing_or t = go (form_of t) refl
  where
    go : (g : Form) → form_of t ≡ g → (t ≡ ty.Nothing) ⊎ (t ≡ ty.Nothing → ⊥)
    go Nowhere e = inl (nowhere_nothing t e)
    go AsNumber e = inr (λ f. let z : Nowhere ≡ AsNumber = sym (ap form_of f) ∙ e in cc)
    go AsReference e = inr (λ f. let z : Nowhere ≡ AsReference = sym (ap form_of f) ∙ e in cc)
    go Boxed e = inr (λ f. let z : Nowhere ≡ Boxed = sym (ap form_of f) ∙ e in cc)

pub later_places_go : LaterPlacesGo
later_places_go m b t v j part into from small k i x p q ready here apt = elim (nothing_or (part_of m t part)) [
  | inl lacks ↦ lacking_goes m t v j part into from b i p here k x q ready.0 apt lacks ready.1
  | inr some ↦ later_goes m t v j part into from b i p here k x q ready.0 apt some small ready.1
]
