-- Expressions: what the code of a tree does is what the tree does, whatever comes behind.
use Rattle.std.proofs.Common.{◌≡◌, ℕ, ℤ, suc, pos, ◌+◌, ◌-◌, ◌<◌, ◌≤◌, Bool, true, false, List, [], ◌∷◌, ◌++◌, length, Option, Some}
use Rattle.std.proofs.Common.{None, Ok, Err, refl, sym, ap, subst, ◌∙◌, arith, append-nil, append_assoc, length-append, inl, inr}
use Rattle.std.proofs.Common.{⊎_elim, ◌⊎◌}
use Rattle.std.specs.Prelude.{slice_get, if◌then◌else◌}
use Rattle.limbo_types.specs.Types.{Ty}
use Rattle.limbo_layout.specs.Adts.{Def}
use Rattle.limbo_typed.specs.declared.operation.Operation.{Operation}
use Rattle.limbo_typed.specs.declared.operation.Connective.{Connective}
use Rattle.limbo_typed.specs.declared.operation.Given.{Given}
use Rattle.limbo_typed.specs.declared.operation.Given.TheVariants as given_kind
use Rattle.limbo_meaning.specs.Values.{Value, Num, fitted, references, among}
use Rattle.limbo_meaning.specs.Memory.{Memory}
use Rattle.limbo_meaning.specs.Exceptions.{Raising}
use Rattle.limbo_meaning.specs.Places as places
use Rattle.limbo_meaning.specs.Places.{Way, read, written}
use Rattle.limbo_values.specs.Operators.{truth}
use Rattle.limbo_meaning.specs.Operations.{Outcome, result_of, decides, holds, truth_of}
use Rattle.limbo_meaning.specs.Trees as tree
use Rattle.limbo_meaning.specs.Trees.{Aim, Term, Evaluated, Node, Lazy, Deciding, Update, Change, Put, Fill, Block, Work, Operate, Terms}
use Rattle.limbo_meaning.specs.Trees.{NoTerms, MoreTerms}
use Rattle.limbo_meaning.specs.Evaluation as evaluation
use Rattle.limbo_meaning.specs.Evaluation.{Progress, Finished, Stepped, after, unless_raised, next, next_all, fill, fill_all, performed}
use Rattle.limbo_meaning.specs.Evaluation.{passes_on, got_by, work_refers, refers, may_hold, note, operands_for, decided, reads_first}
use Rattle.limbo_meaning.specs.Evaluation.{changes}
use Rattle.limbo_meaning.specs.Evaluation.{given_by}
use Rattle.limbo_meaning.specs.Program.{Program}
use Rattle.limbo_meaning.specs.Process.{Shared}
use Rattle.core_code.specs.Slots.{Slot, Holds, Slots, slot, put, value_of, values_of, slot_names}
use Rattle.core_code.specs.Code.{Instr, Give, Known, Write, Skip, Truth, Mirror}
use Rattle.core_code.specs.Machine as machine
use Rattle.core_code.specs.Machine.{Frame, at, memory_of}
use Rattle.core_code.specs.Terms.{Lowered, LoweredAll, drops_from, drops_if, count_of, count_all, slot_at, writes, type_at}
use Rattle.core_code.specs.Terms.{gives, gathers, node, lower, lower_all, given_slot}
use Rattle.core_code.specs.Statements.{code_of}
use Rattle.core_code.proofs.Used.{term_up, terms_up}
use Rattle.core_follows.specs.Drops.{IsWhole, Clean, Between, AllTouch, HasAt, none, enters, passes, Holding}
use Rattle.core_follows.specs.Stands.{SlotsName, joined, coded, obeys, Stands, Going, going, obeying}
use Rattle.core_follows.specs.Stands.{place, place_at, rests}
use Rattle.process_model.specs.Process.{Went}
use Rattle.system_model.specs.Prints.{Writing}
use Rattle.limbo_types.specs.View.{tys_of}
use Rattle.limbo_typed.specs.declared.print.Piece.{Piece}
use Rattle.std.specs.Prelude.{nat_eq}
use Rattle.std.proofs.lemmas.Bool.{eqb-true}
use Rattle.limbo_types.specs.Types as ty
use Rattle.core_code.specs.Terms.{type_of}
use Rattle.core_follows.specs.Handled.{Fits, AllFit, Makes, count, Suits, Declares, IsKnown, Handled, AllHandled}
use Rattle.std.proofs.lemmas.Bool.{cases_eq}
use Rattle.core_follows.proofs.Slots.{put_same, put_other, put_long, put_whole, name_clean, clean_same, clean_within}
use Rattle.core_follows.proofs.Holding.{has_front, has_back, Room, room_front, room_behind, holding_more}
use Rattle.core_follows.proofs.Holding.{holding_put}
use Rattle.core_follows.proofs.Contexts.{Carries, carry}
use Rattle.core_follows.proofs.Static.{touch_wide, values_counted}
use Rattle.core_follows.proofs.Nodes.{AllBetween, AllHold, hold_same, hold_values, hold_long, node_next, evaluated}
use Rattle.core_follows.proofs.Nodes.{evaluated_done, spot, pc_is, Behind, store_goes, gives_always}
use Rattle.core_follows.proofs.Given.{Both, gave, raised, give_goes, owns_row, owns_none, owns_fitted, counted}
use Rattle.core_follows.proofs.Works.{Own, own_gives, own_channel, number_owns, own_writes, own_nothing, own_copy, own_link}
use Rattle.limbo_meaning.specs.Values.{nothing}
use Rattle.std.specs.Prelude.{slice_index_or}
use Rattle.std.specs.Prelude.{zero}
use Rattle.core_follows.proofs.Valued.{AllValued, values_stand, values_differ, spare_outside}
use Rattle.core_follows.proofs.Gathers.{SpareEach, Segments, Made, gather_holding, made_references, made_same, made_segments}
use Rattle.core_follows.proofs.Gathers.{made_tuple, made_adt, made_long, together_segments, gather_names, numbers_long}
use Rattle.core_follows.proofs.Placing.{Formed, formed_none, formed_as, formed_more, moved, moved_names, graft}
use Rattle.core_follows.proofs.Begins.{begins_at, code_begins}
use Rattle.limbo_meaning.specs.Operations.{adt_parts}
use Rattle.core_code.specs.Terms.{part_numbers, numbers_from, variant_of, placed, first_of, types_in, together, together_drops}
use Rattle.core_follows.specs.Handled.{HasLayout}
use Rattle.core_follows.proofs.Nodes.{AllDiffer, call_goes, print_goes}
use Rattle.core_code.specs.Code.{Place, Gather, Call, Print, Pick}
use Rattle.core_follows.proofs.Picks.{taken, whole_of, pick_holding}
use Rattle.core_follows.proofs.Nodes.{hold_at}
use Rattle.core_follows.proofs.Works.{fit_at}
use Rattle.core_follows.proofs.Valued.{valued_at}
use Rattle.limbo_meaning.specs.Values.{Values, parts_of, all_fitted}
use Rattle.limbo_meaning.specs.Places.{value_part, put_part}
use Rattle.core_code.specs.Terms.{picks, moves_out, drops_after, part_types}
use Rattle.core_follows.specs.Handled.{Takes}
use Rattle.core_code.specs.Slots.{Forms, empty, operands_of}
use Rattle.core_code.proofs.Names.{row_references}
use Rattle.limbo_meaning.specs.Values.{Chars, Parts, row, references_in}
use Rattle.limbo_typed.specs.declared.operation.Operation.TheVariants as operation

-- ---- nothing waits in a tree of which nothing is evaluated

mutual
  pub handled_fill : (defs : List Def) (v : Value) (t : Term) → Handled defs t → fill v t ≡ t
  handled_fill defs v (Node t o ts) h = ap (Node t o) (⊎_elim
      (λ (x : Suits defs t o ts × AllHandled defs ts). handled_fill_all defs v ts x.1)
      (λ (x : Declares o ts). declared_fill v o ts x) h)
  handled_fill defs v (Lazy c l r) h = ap (λ (x : Term). Lazy c x r) (handled_fill defs v l h.0)
  handled_fill defs v (Update o g t w ts us) h = ap (λ (x : Terms). Update o g t w x us) (handled_fill_all defs v ts h.1)
  handled_fill defs v (Fill t l is rest) h = ap (λ (x : Term). Fill t x is rest) (⊎_elim
      (λ (x : IsKnown l). known_fill v l x)
      (λ (x : Handled defs l). handled_fill defs v l x) h.0)
  handled_fill defs v _ h = absurd h

  known_fill : (v : Value) (t : Term) → IsKnown t → fill v t ≡ t
  known_fill v (Evaluated x) h = refl
  known_fill v _ h = absurd h

  pub handled_fill_all : (defs : List Def) (v : Value) (ts : Terms) → AllHandled defs ts → fill_all v ts ≡ ts
  handled_fill_all defs v NoTerms h = refl
  handled_fill_all defs v (MoreTerms t ts) h =
      ap (λ (x : Term). MoreTerms x (fill_all v ts)) (handled_fill defs v t h.0) ∙ ap (MoreTerms t) (handled_fill_all defs v ts h.1)

  declared_fill : (v : Value) (o : Work) (ts : Terms) → Declares o ts → fill_all v ts ≡ ts
  declared_fill v (tree.Assign (a ∷ aims)) (MoreTerms (Evaluated x) NoTerms) h = refl
  declared_fill v _ _ h = absurd h

module _ (limit : ℕ) (program : Program) where
  -- ---- what is to be shown of a tree and its code

  abbrev pub GoesBy : (lo : ℕ) → Term → Lowered → Type 0
  GoesBy lo t x =
      (C : Term → Block) → Carries limit program (next program.adts) fill C → (g : Frame) (held : List (Option ℕ))
      → HasAt g.code g.pc x.code → Room g.slots lo x.free held
      → Behind limit program (type_of program.adts t) g lo x.free x.value (g.pc + length x.code) x.drops held (λ v. C (Evaluated v))
      → Going limit program g held
      (C t)

  -- Operands behind which a step of the program may come that no instruction stands for, or an instruction.
  abbrev pub Comes : Bool → Frame → List (Option ℕ) → Block → Type 0
  Comes true g held b = Going limit program g held b
  Comes false g held b = Stands limit program g held b

  pub comes : (b : Bool) (g : Frame) (held : List (Option ℕ)) (todo : Block) → Comes b g held todo → Stands limit program g held todo
  comes true g held todo x = going x
  comes false g held todo x = x

  abbrev pub begun : Bool → Terms → Bool
  begun b NoTerms = b
  begun b (MoreTerms t ts) = true

  pub begins : (ts : Terms) (g : Frame) (held : List (Option ℕ)) (todo : Block) → Comes (begun true ts) g held todo → Going limit program
      g held todo
  begins NoTerms g held todo x = x
  begins (MoreTerms t ts) g held todo x = x

  abbrev pub AllBy : Bool → (lo : ℕ) → Terms → LoweredAll → Type 0
  AllBy b lo ts x =
      (C : Terms → Block) → Carries limit program (next_all program.adts) fill_all C → (g : Frame) (held : List (Option ℕ))
      → HasAt g.code g.pc x.code → Room g.slots lo x.free held
      → ((j : ℕ) (variables : List Value) (slots : Slots) (vs : List Value) (got held' : List (Option ℕ)) → Holding g.slots slots lo
      x.free x.drops got
      → AllHold slots x.values vs → AllBetween lo x.free x.values → AllFit program.adts (types_in program.adts ts) vs → held' ≡ held ++ got
      → Comes b (spot g j (g.pc + length x.code) variables slots) held' (C (evaluated vs)))
      → Comes (begun b ts) g held (C ts)

  in_node : (C : Term → Block) → Carries limit program (next program.adts) fill C → (t : Ty) (o : Work)
      → Carries limit program (next_all program.adts) fill_all (λ ts. C (Node t o ts))
  in_node C c t o = carry limit program (next_all program.adts) fill_all (next program.adts) fill C c (Node t o)
      (λ m. performed program.adts m t o) (λ m ts. refl) (λ v ts. refl)

  -- ---- a node behind its operands

  -- what the node does where its operands are evaluated
  behind_operands : (X : Frame → List (Option ℕ) → Block → Type 0) (lo hi into : ℕ) (T t : Ty) (o : Work) (ts : Terms) (l : LoweredAll)
      (is ds : List Instr) → lo ≤ l.free → l.free ≤ hi → Own limit program X lo l.free hi into (types_in program.adts ts) T t o l.values
      is ds
      → (C : Term → Block) → Carries limit program (next program.adts) fill C → (g : Frame) (held : List (Option ℕ))
      → HasAt g.code g.pc (l.code ++ is) → Room g.slots lo hi held
      → Behind limit program T g lo hi into (g.pc + length (l.code ++ is)) (l.drops ++ ds) held (λ v. C (Evaluated v))
      → (j : ℕ) (variables : List Value) (slots : Slots) (vs : List Value) (got held' : List (Option ℕ))
      → Holding g.slots slots lo l.free l.drops got → AllHold slots l.values vs → AllBetween lo l.free l.values
      → AllFit program.adts (types_in program.adts ts) vs → held' ≡ held ++ got → X (spot g j (g.pc + length l.code) variables slots)
      held' (C (Node t o (evaluated vs)))
  behind_operands X lo hi into T t o ts l is ds p q own C c g held has room k j variables slots vs got held' h hold bs fs eq =
      own C c (spot g j (g.pc + length l.code) variables slots) held' vs (has_back g.code g.pc l.code is has)
      (room_behind g.slots slots lo l.free hi l.drops held got held' p q room h eq) hold bs fs
      (λ j2 variables2 slots2 v got2 held2 h2 e2 b2 eq2.
      let n = length-append l.code is in
      pc_is limit program g j2 (g.pc + length (l.code ++ is)) (g.pc + length l.code + length is) variables2 slots2 held2 (C (Evaluated v))
      (omega arith)
      (k j2 variables2 slots2 v (got ++ got2) held2 (holding_more g.slots slots slots2 lo l.free hi l.drops ds got got2 p q h h2) e2 b2
      (eq2 ∙ ap (λ (x : List (Option ℕ)). x ++ got2) eq ∙ append_assoc held got got2)))

  by_own : (lo hi into : ℕ) (T t : Ty) (o : Work) (ts : Terms) (l : LoweredAll) (is ds : List Instr) → lo ≤ l.free → l.free ≤ hi
      → T ≡ type_of program.adts (Node t o ts)
      → Own limit program (Going limit program) lo l.free hi into (types_in program.adts ts) T t o l.values is ds → AllBy true lo ts l
      → GoesBy lo (Node t o ts) (record { code = l.code ++ is; drops = l.drops ++ ds; value = into; free = hi })
  by_own lo hi into T t o ts l is ds p q et own all C c g held has room k =
      begins ts g held (C (Node t o ts))
      (all (λ us. C (Node t o us)) (in_node C c t o) g held (has_front g.code g.pc l.code is has) (room_front g.slots lo l.free hi held p
      q room)
      (behind_operands (Going limit program) lo hi into T t o ts l is ds p q own C c g held has room
      (λ j variables slots v got held' h e b eq. k j variables slots v got held' h e (
        b.0,
        b.1,
        subst (λ (u : Ty). Fits program.adts u v)
            et b.2,
      ) eq)))

  -- one that has no drops of its own
  same_drops : (lo : ℕ) (t : Term) (is ds : List Instr) (into hi : ℕ)
      → GoesBy lo t (record { code = is; drops = ds ++ []; value = into; free = hi })
      → GoesBy lo t (record { code = is; drops = ds; value = into; free = hi })
  same_drops lo t is ds into hi x =
      subst (λ (es : List Instr). GoesBy lo t (record { code = is; drops = es; value = into; free = hi })) (append-nil ds) x

  -- an assignment that writes nothing: a step without an instruction
  by_nothing : (lo : ℕ) (t : Ty) (u : Term) (ts : Terms) (l : LoweredAll) → lo ≤ l.free → 0 < length l.values
      → AllBy false lo (MoreTerms u ts) l
      → GoesBy lo (Node t (tree.Assign []) (MoreTerms u ts)) (record {
        code = l.code ++ [];
        drops = l.drops;
        value = slot_at 0 l.values;
        free = l.free;
      })
  by_nothing lo t u ts l p q all =
      same_drops lo (Node t (tree.Assign []) (MoreTerms u ts)) (l.code ++ []) l.drops (slot_at 0 l.values) l.free
      (λ C c g held has room k.
      all (λ us. C (Node t (tree.Assign []) us)) (in_node C c t (tree.Assign [])) g held (has_front g.code g.pc l.code [] has)
      (room_front g.slots lo l.free l.free held p (omega arith) room)
      (behind_operands (Stands limit program) lo l.free (slot_at 0 l.values) (type_of program.adts u) t (tree.Assign []) (MoreTerms u ts)
      l [] []
      p (omega arith) (own_nothing limit program lo l.free t l.values (types_in program.adts (MoreTerms u ts)) q) C c g held has room k))

  types_at : (k : ℕ) (ts : Terms) → slice_index_or (types_in program.adts ts) k ty.Nothing ≡ type_at program.adts k ts
  types_at k NoTerms = refl
  types_at zero (MoreTerms t ts) = refl
  types_at (suc k) (MoreTerms t ts) = types_at k ts

  spare_each : (lo hi : ℕ) (ds : List Instr) (ss : List ℕ) → AllValued lo hi ds ss → SpareEach ss ds
  spare_each lo hi ds [] h = tt
  spare_each lo hi ds (s ∷ ss) h = (h.0.1, spare_each lo hi ds ss h.1)

  pub onward : (held p q x y : List (Option ℕ)) → x ≡ held ++ p → y ≡ x ++ q → y ≡ held ++ (p ++ q)
  onward held p q x y e f = f ∙ ap (λ (z : List (Option ℕ)). z ++ q) e ∙ append_assoc held p q

  -- ---- operands that are put together

  -- Each operand does what its code does.
  abbrev pub EachBy : (lo : ℕ) → Terms → Type 0
  EachBy lo NoTerms = Unit {0}
  EachBy lo (MoreTerms t ts) = GoesBy lo t (lower program.adts lo t) × EachBy (lower program.adts lo t).free ts

  -- Operands that move, each behind its own code, to what is put together in a slot behind theirs.
  abbrev pub PlacedBy : (lo : ℕ) → Terms → LoweredAll → Type 0
  PlacedBy lo ts l =
      (T : Ty) (variant : Option ℕ) (ks : List ℕ) → length ks ≡ length l.values
      → (C : Terms → Block) → Carries limit program (next_all program.adts) fill_all C → (g : Frame) (held : List (Option ℕ))
      → HasAt g.code g.pc (placed program.adts T variant l.free 0 ks l.each l.values)
      → 0 < place_at (slice_get g.code (g.pc + length (placed program.adts T variant l.free 0 ks l.each l.values)))
      → Room g.slots lo (suc l.free) held
      → ((j : ℕ) (variables : List Value) (slots still : Slots) (vs : List Value) (got held' : List (Option ℕ))
      → Formed g.slots still slots lo l.free l.free l.values vs l.drops got → SlotsName slots held'
      → AllFit program.adts (types_in program.adts ts) vs → held' ≡ held ++ got
      → Going limit program (spot g j (g.pc + length (placed program.adts T variant l.free 0 ks l.each l.values)) variables slots) held'
      (C (evaluated vs)))
      → Going limit program g held (C ts)

  place_does : (g : Frame) (T : Ty) (variant : Option ℕ) (n k mid s : ℕ) (us : List Value) (v : Value) → operands_of (slot g.slots mid) ≡ us
      → slot g.slots s ≡ Holds v → (w : Shared) (m : ℕ) (below : List Frame) (p : Option Writing)
      → obeys limit program w (coded m g below p) (Place T variant n k mid s)
      ≡ Went w (coded m (at g (suc g.pc) g.variables (moved g.slots mid s (us ++ (v ∷ [])))) below None)
  place_does g T variant n k mid s us v e f w m below p =
      ap (λ (os : List Value). machine.goes_on w (coded m g below p) (moved g.slots mid s (os ++ (value_of (slot g.slots s) ∷ [])))) e
      ∙ ap (λ (x : Slot). machine.goes_on w (coded m g below p) (moved g.slots mid s (us ++ (value_of x ∷ [])))) f

  at_end : (g : Frame) (pc : ℕ) → 0 < place_at (slice_get g.code (pc + 0)) → 0 < place_at (slice_get g.code pc)
  at_end g pc rank = let e : pc + 0 ≡ pc = omega arith in subst (λ (z : ℕ). 0 < place_at (slice_get g.code z)) e rank

  -- what comes behind an operand that moves: the code of the next one, or the end
  placed_rank : (ts : Terms) → AllHandled program.adts ts → (T : Ty) (variant : Option ℕ) (mid n cur : ℕ) (ks : List ℕ) (g : Frame)
      (pc : ℕ) → HasAt g.code pc (placed program.adts T variant mid n ks (lower_all program.adts cur ts).each
      (lower_all program.adts cur ts).values)
      → 0 < place_at (slice_get g.code (pc + length (placed program.adts T variant mid n ks (lower_all program.adts cur ts).each
      (lower_all program.adts cur ts).values)))
      → 0 < place_at (slice_get g.code pc)
  placed_rank NoTerms h T variant mid n cur [] g pc has rank = at_end g pc rank
  placed_rank NoTerms h T variant mid n cur (k ∷ ks) g pc has rank = at_end g pc rank
  placed_rank (MoreTerms t ts) h T variant mid n cur [] g pc has rank = at_end g pc rank
  placed_rank (MoreTerms t ts) h T variant mid n cur (k ∷ ks) g pc has rank =
      begins_at g.code pc (lower program.adts cur t).code (has_front g.code pc (lower program.adts cur t).code _ has)
      (code_begins program.adts t h.0 cur)

  placing : (ts : Terms) → AllHandled program.adts ts → (T : Ty) (variant : Option ℕ) (before : Slots) (lo mid cur n : ℕ) (ks ss : List ℕ)
      (us : List Value) (ds : List Instr) (got : List (Option ℕ)) (still : Slots) → EachBy cur ts
      → length ks ≡ length (lower_all program.adts cur ts).values → lo ≤ cur → (lower_all program.adts cur ts).free ≤ mid
      → (C : Terms → Block) → Carries limit program (next_all program.adts) fill_all C → (g : Frame) (held : List (Option ℕ))
      → HasAt g.code g.pc (placed program.adts T variant mid n ks (lower_all program.adts cur ts).each (lower_all program.adts cur ts).values)
      → 0 < place_at (slice_get g.code (g.pc + length (placed program.adts T variant mid n ks (lower_all program.adts cur ts).each
      (lower_all program.adts cur ts).values)))
      → mid < length g.slots → Clean g.slots cur mid → SlotsName g.slots held → Formed before still g.slots lo cur mid ss us ds got
      → ((j : ℕ) (variables : List Value) (slots still' : Slots) (vs : List Value) (got2 held2 : List (Option ℕ))
      → Formed before still' slots lo (lower_all program.adts cur ts).free mid (ss ++ (lower_all program.adts cur ts).values) (us ++ vs)
      (ds ++ (lower_all program.adts cur ts).drops) (got ++ got2)
      → SlotsName slots held2 → AllFit program.adts (types_in program.adts ts) vs → held2 ≡ held ++ got2
      → Going limit program (spot g j (g.pc + length (placed program.adts T variant mid n ks (lower_all program.adts cur ts).each
      (lower_all program.adts cur ts).values)) variables slots) held2 (C (evaluated vs)))
      → Going limit program g held (C ts)
  placing NoTerms h T variant before lo mid cur n (k ∷ ks) ss us ds got still es l p q C c g held has rank fits clean names f done =
      absurd (omega arith)
  placing NoTerms h T variant before lo mid cur n [] ss us ds got still es l p q C c g held has rank fits clean names f done =
      let e : g.pc + 0 ≡ g.pc = omega arith in
      subst (λ (pc : ℕ). Going limit program (spot g g.into pc g.variables g.slots) held (C NoTerms)) e
      (done g.into g.variables g.slots still [] [] held
      (formed_as before still g.slots lo cur mid ss (ss ++ []) us (us ++ []) ds (ds ++ []) got (got ++ [])
      (sym (append-nil ss)) (sym (append-nil us)) (sym (append-nil ds)) (sym (append-nil got)) f) names tt (sym (append-nil held)))
  placing (MoreTerms t ts) h T variant before lo mid cur n [] ss us ds got still es l p q C c g held has rank fits clean names f done =
      absurd (omega arith)
  placing (MoreTerms t ts) h T variant before lo mid cur n (k ∷ ks) ss us ds got still es l p q C c g held has rank fits clean names f done =
      let x = lower program.adts cur t in
      let y = lower_all program.adts x.free ts in
      let up = term_up program.adts cur t in
      let ups = terms_up program.adts x.free ts in
      let rest : List Instr = placed program.adts T variant mid (suc n) ks y.each y.values in
      let i : Instr = Place T variant n k mid x.value in
      let all : List Instr = x.code ++ (i ∷ rest) in
      let n1 = length-append x.code (i ∷ rest) in
      let has_place = has_back g.code g.pc x.code (i ∷ rest) has in
      let room : Room g.slots cur x.free held = record {
        order = up;
        fits = omega arith;
        clean = clean_within g.slots cur mid cur x.free (omega arith) (omega arith) clean;
        names = names;
      } in
      es.0 (λ u. C (MoreTerms u ts))
      (carry limit program (next program.adts) fill (next_all program.adts) fill_all C c (λ u. MoreTerms u ts)
      (λ m v. after (next_all program.adts m ts) (λ vs. Finished (v ∷ vs)) (MoreTerms (Evaluated v))) (λ m u. refl)
      (λ v u. ap (MoreTerms (fill v u)) (handled_fill_all program.adts v ts h.1)))
      g held (has_front g.code g.pc x.code (i ∷ rest) has) room
      (λ j variables slots v got1 held1 h1 e1 b1 eq1.
      let pc1 : ℕ = g.pc + length x.code in
      let g1 = spot g j pc1 variables slots in
      let room1 = room_behind g.slots slots cur x.free x.free x.drops held got1 held1 up (omega arith) room h1 eq1 in
      let long1 = h1.long in
      let forms1 : operands_of (slot slots mid) ≡ us = ap operands_of (h1.same mid (inr (omega arith))) ∙ f.forms in
      let named1 : (m : ℕ) → slot_names (slot slots mid) m ≡ among m (references_in us) = λ m.
      ap (λ (z : Slot). slot_names z m) (h1.same mid (inr (omega arith))) ∙ f.names m in
      let slots2 = moved slots mid x.value (us ++ (v ∷ [])) in
      let b1a = b1.0 in
      let b1b = b1.1 in
      let f2 = formed_more before still g.slots slots lo cur x.free mid x.value ss us v ds x.drops got got1 p up (omega arith) fits f h1 e1
      (b1a, b1b) in
      let names2 = moved_names slots mid x.value us v held1 (omega arith) (omega arith) (λ z. absurd (omega (arith, z, b1b, ups, q))) e1
      named1 room1.names in
      let clean2 : Clean slots2 x.free mid = clean_same g.slots slots2 x.free mid
      (λ d y z. put_other (put slots x.value empty) mid d (Forms (us ++ (v ∷ []))) (λ w. absurd (omega (arith, w, z)))
      ∙ put_other slots x.value d empty (λ w. absurd (omega (arith, w, y, b1b))) ∙ h1.same d (inr y))
      (clean_within g.slots cur mid x.free mid up (omega arith) clean) in
      let long2 : length slots2 ≡ length slots = put_long (put slots x.value empty) mid (Forms (us ++ (v ∷ [])))
      ∙ put_long slots x.value empty in
      let end : suc pc1 + length rest ≡ g.pc + length all = omega arith in
      let rank_rest : 0 < place_at (slice_get g.code (suc pc1 + length rest)) =
      subst (λ (z : ℕ). 0 < place_at (slice_get g.code z)) (sym end) rank in
      going (obeying i room1.names has_place.0 (λ w. rests (suc pc1) slots2 (place_does g1 T variant n k mid x.value us v forms1 e1 w)
      (placed_rank ts h.1 T variant mid (suc n) x.free ks g (suc pc1) has_place.1 rank_rest)
      (going (placing ts h.1 T variant before lo mid x.free (suc n) ks (ss ++ (x.value ∷ [])) (us ++ (v ∷ [])) (ds ++ x.drops) (got ++ got1)
      (graft still slots cur x.free) es.1 (omega arith) (omega arith) q (λ zs. C (MoreTerms (Evaluated v) zs))
      (carry limit program (next_all program.adts) fill_all (next_all program.adts) fill_all C c (MoreTerms (Evaluated v))
      (λ m vs. Finished (v ∷ vs)) (λ m zs. refl) (λ z zs. refl))
      (spot g j (suc pc1) variables slots2) held1 has_place.1 rank_rest (omega arith) clean2 names2 f2
      (λ j3 variables3 slots3 still3 vs got3 held3 f3 names3 fs3 eq3.
      subst (λ (pc : ℕ). Going limit program (spot g j3 pc variables3 slots3) held3 (C (evaluated (v ∷ vs)))) (sym end)
      (done j3 variables3 slots3 still3 (v ∷ vs) (got1 ++ got3) held3
      (formed_as before still3 slots3 lo y.free mid ((ss ++ (x.value ∷ [])) ++ y.values) (ss ++ (x.value ∷ y.values))
      ((us ++ (v ∷ [])) ++ vs) (us ++ (v ∷ vs)) ((ds ++ x.drops) ++ y.drops) (ds ++ (x.drops ++ y.drops))
      ((got ++ got1) ++ got3) (got ++ (got1 ++ got3))
      (append_assoc ss (x.value ∷ []) y.values) (append_assoc us (v ∷ []) vs) (append_assoc ds x.drops y.drops)
      (append_assoc got got1 got3) f3)
      names3 (b1.2, fs3) (onward held got1 got3 held1 held3 eq1 eq3))))))))

  pub all_placed : (ts : Terms) → AllHandled program.adts ts → (lo : ℕ) → EachBy lo ts → PlacedBy lo ts (lower_all program.adts lo ts)
  all_placed ts h lo es T variant ks long C c g held has rank room done =
      let mid : ℕ = (lower_all program.adts lo ts).free in
      let up = terms_up program.adts lo ts in
      let at_mid = room.clean mid up (omega arith) in
      placing ts h T variant g.slots lo mid lo 0 ks [] [] [] [] g.slots es long (omega arith) (omega arith) C c g held has rank
      (let q = room.fits in omega arith) (clean_within g.slots lo (suc mid) lo mid (omega arith) (omega arith) room.clean) room.names
      (formed_none g.slots lo mid at_mid.0 at_mid.1) done

  -- what parts are made of moves into them
  abbrev made_of : Operation → List Value → List Value
  made_of (operation.Adt n v) vs = adt_parts (slice_get program.adts n) v vs
  made_of o vs = vs

  abbrev zeros : List Ty → List Value
  zeros [] = []
  zeros (t ∷ ts) = fitted program.adts t nothing ∷ zeros ts

  zeros_fit : (ts : List Ty) → AllFit program.adts ts (zeros ts)
  zeros_fit [] = tt
  zeros_fit (t ∷ ts) = (inl (nothing, refl), zeros_fit ts)

  zeros_long : (ts : List Ty) → length (zeros ts) ≡ length ts
  zeros_long [] = refl
  zeros_long (t ∷ ts) = ap suc (zeros_long ts)

  types_long : (ts : Terms) → length (types_in program.adts ts) ≡ count ts
  types_long NoTerms = refl
  types_long (MoreTerms t ts) = ap suc (types_long ts)

  parts_go : (lo : ℕ) (t : Ty) (o : Operation) (ts : Terms) (l : LoweredAll) → lo ≤ l.free → length l.values ≡ count ts
      → AllValued lo l.free l.drops l.values → AllDiffer l.values → HasLayout program.adts t
      → ((vs : List Value) → AllFit program.adts (types_in program.adts ts) vs
      → Made program.adts 0 (part_types program.adts t) (made_of o vs) (part_numbers program.adts o (length vs)) vs)
      → ((m : Memory) (vs : List Value) → performed program.adts m t (Operate o) vs
      ≡ Stepped m [] (Evaluated (fitted program.adts t (Parts (row (made_of o vs)))))) → PlacedBy lo ts l
      → GoesBy lo (Node t (Operate o) ts) (gathers program.adts t o l)
  parts_go lo t o ts l p counts valued differ layout made performs all C c g held has room k =
      let mid : ℕ = l.free in
      let ks : List ℕ = part_numbers program.adts o (length l.values) in
      let Ts : List Ty = types_in program.adts ts in
      let P : List Ty = part_types program.adts t in
      let code : List Instr = placed program.adts t (variant_of program.adts o) mid 0 ks l.each l.values in
      let i : Instr = Gather t (Operate o) mid (length l.values) in
      let is : List Instr = i ∷ [] in
      let n1 = length-append code is in
      let has_i = (has_back g.code g.pc code is has).0 in
      let as_many : length (zeros Ts) ≡ length l.values = zeros_long Ts ∙ types_long ts ∙ sym counts in
      let long_ks : length ks ≡ length l.values =
      subst (λ (n : ℕ). length (part_numbers program.adts o n) ≡ n) as_many
      (made_long program.adts 0 P (made_of o (zeros Ts)) (part_numbers program.adts o (length (zeros Ts))) (zeros Ts)
      (made (zeros Ts) (zeros_fit Ts))) in
      all t (variant_of program.adts o) ks long_ks (λ xs. C (Node t (Operate o) xs)) (in_node C c t (Operate o)) g held
      (has_front g.code g.pc code is has) (subst (λ (x : Option Instr). 0 < place_at x) (sym has_i) (omega arith)) room
      (λ j variables slots still vs got held1 f names1 fs eq.
      let pc1 : ℕ = g.pc + length code in
      let g1 = spot g j pc1 variables slots in
      let full : List Value = made_of o vs in
      let u : Value = fitted program.adts t (Parts (row full)) in
      let slots2 = put slots mid (Holds u) in
      let long_still = f.long in
      let long_one = f.holding.long in
      let long : mid < length slots = let q = room.fits in omega arith in
      let refs = made_references program.adts t full layout in
      let longs : length vs ≡ length l.values = hold_long still l.values vs f.held in
      let ns : List ℕ = part_numbers program.adts o (length vs) in
      let m = made vs fs in
      let segments = subst (λ (n : ℕ). Segments program.adts P u 0 (part_numbers program.adts o n) l.values vs) longs
      (made_segments program.adts u 0 P full ns vs l.values [] [] 0 m refl refs refl (sym longs) (omega arith)) in
      let same_names : (n : ℕ) → among n (references u) ≡ among n (references_in vs) = λ n.
      ap (among n) refs ∙ made_same program.adts 0 P full ns vs n m in
      let whole = gather_holding program.adts P u g.slots still slots lo mid ks l.values vs l.drops held got p long f differ
      (spare_each lo mid l.drops l.values valued) (spare_outside lo mid mid l.drops (inr (omega arith)) f.holding.within) segments room.clean
      room.names (gather_names slots mid u vs (held ++ got) long f.names same_names (subst (SlotsName slots) eq names1)) in
      gives_always limit program C c g1 held1 [] (Node t (Operate o) (evaluated vs)) (Evaluated u) i (suc pc1) slots2 has_i names1
      (λ w q below r. ap (λ (xs : List Value). machine.gives limit (code_of program) w (coded q g1 below r) mid
      (performed program.adts (memory_of w g1) t (Operate o) xs)) f.forms
      ∙ ap (λ (y : Progress Value Term). machine.gives limit (code_of program) w (coded q g1 below r) mid y) (performs (memory_of w g1) vs))
      (λ w. node_next limit program (memory_of w g1) t (Operate o) vs ∙ performs (memory_of w g1) vs)
      (pc_is limit program g j (g.pc + length (code ++ is)) (suc pc1) variables slots2 (held1 ++ []) (C (Evaluated u)) (omega arith)
      (k j variables slots2 u got (held1 ++ []) whole (put_same slots mid (Holds u) long) (p, omega arith, inl (Parts (row full), refl))
      (append-nil held1 ∙ eq))))

  gathers_goes : (lo : ℕ) (t : Ty) (o : Operation) (ts : Terms) (l : LoweredAll) → lo ≤ l.free → length l.values ≡ count ts
      → AllValued lo l.free l.drops l.values → AllDiffer l.values → Makes program.adts t o (types_in program.adts ts) → PlacedBy lo ts l
      → GoesBy lo (Node t (Operate o) ts) (gathers program.adts t o l)
  gathers_goes lo (ty.Tuple us) operation.Tuple ts l p n valued differ s all =
      parts_go lo (ty.Tuple us) operation.Tuple ts l p n valued differ tt
      (λ vs fs. made_tuple program.adts us (types_in program.adts ts) vs s fs) (λ m vs. refl) all
  gathers_goes lo (ty.Adt k) (operation.Adt n v) ts l p c valued differ s all =
      subst (λ (n : ℕ). GoesBy lo (Node (ty.Adt k) (Operate (operation.Adt n v)) ts) (gathers program.adts (ty.Adt k) (operation.Adt n v)
      l)) s.0
      (parts_go lo (ty.Adt k) (operation.Adt k v) ts l p c valued differ (s.1.0, s.1.1, s.1.2)
      (λ vs fs. made_adt program.adts k s.1.0 v (types_in program.adts ts) vs s.1.1 s.1.3 fs) (λ m vs. refl) all)
  gathers_goes lo _ _ ts l p n valued differ s all = absurd s

  -- ---- calls and prints

  -- Operands that are together as a tuple behind others that refer to nothing, and what the node does with them, whose value has the slot
  -- behind that.
  together_goes : (front : List Value) (heads : List Ty) → ((vs : List Value) → references_in (front ++ vs) ≡ references_in vs)
      → count_all program.adts heads ≡ 0
      → (lo : ℕ) (T t : Ty) (o : Work) (ts : Terms) (l : LoweredAll) (i : Instr) (own : List Instr) → lo ≤ l.free
      → length l.values ≡ count ts → AllValued lo l.free l.drops l.values → AllDiffer l.values → PlacedBy lo ts l → 0 < place i
      → type_of program.adts (Node t o ts) ≡ T
      → ((C : Term → Block) → Carries limit program (next program.adts) fill C → (g : Frame) (held : List (Option ℕ)) (vs : List Value)
      → slice_get g.code g.pc ≡ Some i → SlotsName g.slots held
      → Room (joined front g (Some l.free)).slots (suc l.free) (suc (suc l.free)) held
      → operands_of (slot g.slots l.free) ≡ vs
      → Behind limit program T (joined front g (Some l.free)) (suc l.free) (suc (suc l.free)) (suc l.free) (suc g.pc) own held
      (λ v. C (Evaluated v))
      → Going limit program g held (C (Node t o (evaluated vs))))
      → GoesBy lo (Node t o ts) (record {
        code = together program.adts heads (types_in program.adts ts) l ++ i ∷ [];
        drops = together_drops program.adts heads (types_in program.adts ts) l ++ own;
        value = suc l.free;
        free = suc (suc l.free);
      })
  together_goes front heads clear none_counted lo T t o ts l i own p counts valued differ all some same_type acts C c g held has room k =
      let mid : ℕ = l.free in
      let Ts : List Ty = types_in program.adts ts in
      let ks : List ℕ = numbers_from program.adts (length heads) (length l.values) in
      let code : List Instr = together program.adts heads Ts l in
      let drops : List Instr = together_drops program.adts heads Ts l in
      let is : List Instr = i ∷ [] in
      let n1 = length-append code is in
      let has_i = (has_back g.code g.pc code is has).0 in
      let room0 = room_front g.slots lo (suc mid) (suc (suc mid)) held (omega arith) (omega arith) room in
      all (ty.Tuple (tys_of (heads ++ Ts))) None ks (numbers_long program.adts (length heads) (length l.values))
      (λ xs. C (Node t o xs)) (in_node C c t o) g held
      (has_front g.code g.pc code is has) (subst (λ (x : Option Instr). 0 < place_at x) (sym has_i) some) room0
      (λ j variables slots still vs got held1 f names1 fs eq.
      let pc1 : ℕ = g.pc + length code in
      let g1 = spot g j pc1 variables slots in
      let u : Value = Parts (row (front ++ vs)) in
      let slots2 = (joined front g1 (Some mid)).slots in
      let long_still = f.long in
      let long_one = f.holding.long in
      let long : mid < length slots = let q = room.fits in omega arith in
      let longs : length vs ≡ length l.values = hold_long still l.values vs f.held in
      let refs : references u ≡ references_in vs = row_references (front ++ vs) ∙ clear vs in
      let segments = subst (λ (n : ℕ). Segments program.adts (heads ++ Ts) u 0 (numbers_from program.adts (length heads) n) l.values vs)
      longs
      (together_segments program.adts u (length heads) Ts vs l.values heads [] 0 fs refl refs (sym none_counted) (sym longs)
      (omega arith)) in
      let same_names : (n : ℕ) → among n (references u) ≡ among n (references_in vs) = λ n. ap (among n) refs in
      let whole = gather_holding program.adts (heads ++ Ts) u g.slots still slots lo mid ks l.values vs l.drops held got p long f differ
      (spare_each lo mid l.drops l.values valued) (spare_outside lo mid mid l.drops (inr (omega arith)) f.holding.within) segments room0.clean
      room0.names (gather_names slots mid u vs (held ++ got) long f.names same_names (subst (SlotsName slots) eq names1)) in
      let h1 : Holding g.slots slots2 lo (suc mid) drops got =
      subst (λ (os : List Value). Holding g.slots (put slots mid (Holds (Parts (row (front ++ os))))) lo (suc mid) drops got) (sym f.forms)
      whole in
      acts C c g1 held1 vs has_i names1
      (room_behind g.slots slots2 lo (suc mid) (suc (suc mid)) drops held got held1 (omega arith) (omega arith) room h1 eq) f.forms
      (λ j2 variables2 slots3 v got2 held2 h2 e2 b2 eq2.
      pc_is limit program g j2 (g.pc + length (code ++ is)) (suc pc1) variables2 slots3 held2 (C (Evaluated v)) (omega arith)
      (k j2 variables2 slots3 v (got ++ got2) held2
      (holding_more g.slots slots2 slots3 lo (suc mid) (suc (suc mid)) drops own got got2 (omega arith) (omega arith) h1 h2) e2
      (omega arith, b2.1, subst (λ (z : Ty). Fits program.adts z v) (sym same_type) b2.2) (onward held got got2 held1 held2 eq eq2))))

  there_is_one : (n : ℕ) (b : Bool) → 0 < n → nat_eq n 0 ≡ b → b ≡ false
  there_is_one n true l e = absurd (let z = eqb-true n 0 e in omega (arith, z, l))
  there_is_one n false l e = refl

  abbrev calling : Bool → List Ty → Ty → ℕ → LoweredAll → Lowered
  calling b us t f l = record {
    code = together program.adts [] us l ++ Call t f (if b then l.free else suc l.free) (if b then None else Some l.free) ∷ [];
    drops = together_drops program.adts [] us l ++ drops_from (if b then l.free else suc l.free) 0 (count_of program.adts t);
    value = if b then l.free else suc l.free;
    free = suc (if b then l.free else suc l.free);
  }

  abbrev printing : Bool → List Ty → List Piece → LoweredAll → Lowered
  printing b us ps l = record {
    code = together program.adts (ty.Chars ∷ []) us l ++ Print ps (if b then l.free else suc l.free) (if b then None else Some l.free) ∷ [];
    drops = together_drops program.adts (ty.Chars ∷ []) us l;
    value = if b then l.free else suc l.free;
    free = suc (if b then l.free else suc l.free);
  }

  call_by : (lo : ℕ) (t : Ty) (f : ℕ) (ts : Terms) (l : LoweredAll) → lo ≤ l.free → length l.values ≡ count ts → 0 < count ts
      → AllValued lo l.free l.drops l.values → AllDiffer l.values → PlacedBy lo ts l
      → GoesBy lo (Node t (tree.Call f) ts) (node program.adts (types_in program.adts ts) t (tree.Call f) l)
  call_by lo t f ts l p counts some valued differ all =
      subst (λ (b : Bool). GoesBy lo (Node t (tree.Call f) ts) (calling b (types_in program.adts ts) t f l))
      (sym (there_is_one (length l.values) (nat_eq (length l.values) 0) (omega arith) refl))
      (together_goes [] [] (λ vs. refl) refl lo t t (tree.Call f) ts l (Call t f (suc l.free) (Some l.free))
      (drops_from (suc l.free) 0 (count_of program.adts t)) p counts valued differ all (omega arith) refl
      (λ C c g held vs has names room e k.
      call_goes limit program C c g held t f (suc l.free) (Some l.free) vs (drops_from (suc l.free) 0 (count_of program.adts t)) has names
      room e (λ v. owns_row (suc l.free) (fitted program.adts t v) (count_of program.adts t) (counted program.adts t v)) k))

  print_by : (lo : ℕ) (t : Ty) (ps : List Piece) (ts : Terms) (l : LoweredAll) → t ≡ ty.Int → lo ≤ l.free → length l.values ≡ count ts
      → 0 < count ts → AllValued lo l.free l.drops l.values → AllDiffer l.values → PlacedBy lo ts l
      → GoesBy lo (Node t (tree.Print ps) ts) (node program.adts (types_in program.adts ts) t (tree.Print ps) l)
  print_by lo t ps ts l et p counts some valued differ all =
      subst (λ (b : Bool). GoesBy lo (Node t (tree.Print ps) ts) (printing b (types_in program.adts ts) ps l))
      (sym (there_is_one (length l.values) (nat_eq (length l.values) 0) (omega arith) refl))
      (same_drops lo (Node t (tree.Print ps) ts) _ (together_drops program.adts (ty.Chars ∷ []) (types_in program.adts ts) l) (suc l.free)
      (suc (suc l.free))
      (together_goes (Chars [] ∷ []) (ty.Chars ∷ []) (λ vs. refl) refl lo t t (tree.Print ps) ts l (Print ps (suc l.free) (Some l.free)) [] p
      counts valued differ all (omega arith) refl
      (λ C c g held vs has names room e k.
      print_goes limit program C c g held t ps (suc l.free) (Some l.free) vs has names room e (number_owns limit program (suc l.free)) et
      k)))

  -- without operands
  call_alone : (lo : ℕ) (t : Ty) (f : ℕ) → GoesBy lo (Node t (tree.Call f) NoTerms) (lower program.adts lo (Node t (tree.Call f) NoTerms))
  call_alone lo t f C c g held has room k =
      let e : g.pc + 1 ≡ suc g.pc = omega arith in
      call_goes limit program C c g held t f lo None [] (drops_from lo 0 (count_of program.adts t)) has.0 room.names room refl
      (λ v. owns_row lo (fitted program.adts t v) (count_of program.adts t) (counted program.adts t v))
      (λ j variables slots v got held' h at b eq. pc_is limit program g j (g.pc + 1) (suc g.pc) variables slots held' (C (Evaluated v)) e
      (k j variables slots v got held' h at b eq))

  print_alone : (lo : ℕ) (t : Ty) (ps : List Piece) → t ≡ ty.Int
      → GoesBy lo (Node t (tree.Print ps) NoTerms) (lower program.adts lo (Node t (tree.Print ps) NoTerms))
  print_alone lo t ps et C c g held has room k =
      let e : g.pc + 1 ≡ suc g.pc = omega arith in
      print_goes limit program C c g held t ps lo None [] has.0 room.names room refl (number_owns limit program lo) et
      (λ j variables slots v got held' h at b eq. pc_is limit program g j (g.pc + 1) (suc g.pc) variables slots held' (C (Evaluated v)) e
      (k j variables slots v got held' h at b eq))

  -- a part moves out of a value
  picks_goes : (lo : ℕ) (t : Ty) (k : ℕ) (ts : Terms) (l : LoweredAll) → lo ≤ l.free → length l.values ≡ count ts
      → AllValued lo l.free l.drops l.values → Takes program.adts (type_at program.adts 0 ts) k t → AllBy true lo ts l
      → GoesBy lo (Node t (tree.TakePart k) ts) (picks program.adts (first_of program.adts (types_in program.adts ts)) t k l)
  picks_goes lo t k NoTerms l p n valued takes all C c g held has room done = absurd takes.0
  picks_goes lo t k (MoreTerms a more) l p n valued takes all C c g held has room done =
      let ts : Terms = MoreTerms a more in
      let u : Ty = type_at program.adts 0 ts in
      let from : ℕ = slot_at 0 l.values in
      let mid : ℕ = l.free in
      let i : Instr = Pick t k mid from in
      let is : List Instr = i ∷ [] in
      let n1 = length-append l.code is in
      let some : 0 < length l.values = omega (arith, n) in
      begins ts g held (C (Node t (tree.TakePart k) ts))
      (all (λ xs. C (Node t (tree.TakePart k) xs)) (in_node C c t (tree.TakePart k)) g held (has_front g.code g.pc l.code is has)
      (room_front g.slots lo mid (suc mid) held p (omega arith) room)
      (λ j variables slots vs got held1 h hold bs fs eq.
      let g1 = spot g j (g.pc + length l.code) variables slots in
      let room1 = room_behind g.slots slots lo mid (suc mid) l.drops held got held1 p (omega arith) room h eq in
      let long : mid < length slots = let q = room1.fits in omega arith in
      let v0 : Value = slice_index_or vs 0 nothing in
      let held_there : slot slots from ≡ Holds v0 = hold_at slots l.values vs 0 some hold in
      let fit : Fits program.adts u v0 = subst (λ (T : Ty). Fits program.adts T v0) (types_at 0 ts)
      (fit_at program.adts (types_in program.adts ts) vs 0 (let q = hold_long slots l.values vs hold in omega arith) fs) in
      let whole = whole_of program.adts u k v0 takes.0 takes.1 fit in
      let ws : Values = row (all_fitted program.adts (part_types program.adts u) whole.0) in
      let there : slot slots from ≡ Holds (Parts ws) = held_there ∙ ap Holds whole.1 in
      let same : ws ≡ parts_of (value_of (slot slots from)) = sym (ap (λ (x : Slot). parts_of (value_of x)) there) in
      let z : Value = fitted program.adts t nothing in
      let after_it : Values → Slots = λ xs. put (put slots from (Holds (Parts (put_part k z xs)))) mid (Holds (fitted program.adts t
      (value_part k xs))) in
      let slots2 = after_it (parts_of (value_of (slot slots from))) in
      let v : Value = fitted program.adts t (value_part k (parts_of v0)) in
      let at0 = valued_at lo mid l.drops l.values 0 some valued in
      let holding = subst (λ (xs : Values). Holding g.slots (after_it xs) lo (suc mid) (drops_after (moves_out program.adts u k from mid)
      l.drops) got)
      same (pick_holding program.adts u t k g.slots slots lo mid from ws l.drops got p long h there at0.0 at0.1
      (spare_outside lo mid mid l.drops (inr (omega arith)) h.within) (taken program.adts (part_types program.adts u) whole.0 k takes.1)
      takes.2
      (room1.clean mid (omega arith) (omega arith)).0) in
      gives_always limit program C c g1 held1 [] (Node t (tree.TakePart k) (evaluated vs)) (Evaluated v) i
      (suc (g.pc + length l.code)) slots2 (has_back g.code g.pc l.code is has).0 room1.names
      (λ w q below r. refl)
      (λ w. node_next limit program (memory_of w g1) t (tree.TakePart k) vs)
      (pc_is limit program g j (g.pc + length (l.code ++ is)) (suc (g.pc + length l.code)) variables slots2 (held1 ++ [])
      (C (Evaluated v)) (omega arith)
      (done j variables slots2 v got (held1 ++ []) holding
      (put_same (put slots from (Holds (Parts (put_part k z (parts_of (value_of (slot slots from))))))) mid
      (Holds (fitted program.adts t (value_part k (parts_of (value_of (slot slots from))))))
      (let q = put_long slots from (Holds (Parts (put_part k z (parts_of (value_of (slot slots from)))))) in omega (arith, q, long))
      ∙ ap (λ (x : Slot). Holds (fitted program.adts t (value_part k (parts_of (value_of x))))) held_there)
      (p, omega arith, inl (value_part k (parts_of v0), refl)) (append-nil held1 ∙ eq)))))

  node_goes : (lo : ℕ) (t : Ty) (o : Work) (ts : Terms) (l : LoweredAll) → lo ≤ l.free → length l.values ≡ count ts
      → Suits program.adts t o ts
      → AllValued lo l.free l.drops l.values → AllDiffer l.values → ((b : Bool) → AllBy b lo ts l) → PlacedBy lo ts l
      → ((f : ℕ) → GoesBy lo (Node t (tree.Call f) ts) (node program.adts (types_in program.adts ts) t (tree.Call f) l))
      → ((ps : List Piece) → t ≡ ty.Int
      → GoesBy lo (Node t (tree.Print ps) ts) (node program.adts (types_in program.adts ts) t (tree.Print ps) l))
      → GoesBy lo (Node t o ts) (node program.adts (types_in program.adts ts) t o l)
  node_goes lo t (Operate o) ts l p n (inl s) vd df all placed calls prints =
      subst (λ (b : Bool). GoesBy lo (Node t (Operate o) ts) (if b then gathers program.adts t o l else gives program.adts t (Operate o)
      l)) (sym s)
      (by_own lo (suc l.free) l.free t t (Operate o) ts l _ _ p (omega arith) refl
      (own_gives limit program lo l.free t (Operate o) l.values (types_in program.adts ts) s p) (all true))
  node_goes lo t (Operate o) ts l p n (inr s) vd df all placed calls prints =
      subst (λ (b : Bool). GoesBy lo (Node t (Operate o) ts) (if b then gathers program.adts t o l else gives program.adts t (Operate o)
      l)) (sym s.0)
      (gathers_goes lo t o ts l p n vd df s.1 placed)
  node_goes lo t (tree.Assign []) NoTerms l p n s vd df all placed calls prints = absurd (omega arith)
  node_goes lo t (tree.Assign []) (MoreTerms x ts) l p n s vd df all placed calls prints = by_nothing lo t x ts l p (omega arith) (all false)
  node_goes lo t (tree.Assign (a ∷ aims)) ts l p n s vd df all placed calls prints =
      same_drops lo _ _ l.drops _ l.free
      (by_own lo l.free (slot_at (operands_for (a ∷ aims)) l.values) _ t (tree.Assign (a ∷ aims)) ts l _ [] p (omega arith)
      (types_at (operands_for (a ∷ aims)) ts)
      (own_writes limit program lo l.free t a aims l.values (types_in program.adts ts) (omega (arith, n, s))) (all true))
  node_goes lo t (tree.TakePart k) ts l p n s vd df all placed calls prints = picks_goes lo t k ts l p n vd s (all true)
  node_goes lo t tree.Copy ts l p n s vd df all placed calls prints =
      same_drops lo _ _ l.drops _ l.free
      (by_own lo l.free (slot_at 2 l.values) _ t tree.Copy ts l _ [] p (omega arith) (types_at 2 ts)
      (own_copy limit program lo l.free t l.values (types_in program.adts ts) (omega (arith, n, s))) (all true))
  node_goes lo t tree.Link ts l p n s vd df all placed calls prints =
      by_own lo (suc (l.free + (length l.values - 1))) (l.free + (length l.values - 1)) t t tree.Link ts l _ _ p (omega arith) refl
      (own_link limit program lo l.free t l.values (types_in program.adts ts) s p) (all true)
  node_goes lo t (tree.Call f) ts l p n s vd df all placed calls prints = calls f
  node_goes lo t (tree.Print ps) ts l p n s vd df all placed calls prints = prints ps s
  node_goes lo t tree.NewChannel ts l p n s vd df all placed calls prints =
      by_own lo (suc l.free) l.free t t tree.NewChannel ts l _ _ p (omega arith) refl
      (own_channel limit program lo l.free t l.values (types_in program.adts ts) s p) (all true)
  node_goes lo t (tree.Literal c) ts l p n s vd df all placed calls prints =
      by_own lo (suc l.free) l.free t t (tree.Literal c) ts l _ _ p (omega arith) refl
      (own_gives limit program lo l.free t (tree.Literal c) l.values (types_in program.adts ts) tt p) (all true)
  node_goes lo t tree.Nil ts l p n s vd df all placed calls prints =
      by_own lo (suc l.free) l.free t t tree.Nil ts l _ _ p (omega arith) refl
      (own_gives limit program lo l.free t tree.Nil l.values (types_in program.adts ts) tt p) (all true)
  node_goes lo t (tree.Read w) ts l p n s vd df all placed calls prints =
      by_own lo (suc l.free) l.free t t (tree.Read w) ts l _ _ p (omega arith) refl
      (own_gives limit program lo l.free t (tree.Read w) l.values (types_in program.adts ts) tt p) (all true)
  node_goes lo t (tree.Sprint ps) ts l p n s vd df all placed calls prints =
      by_own lo (suc l.free) l.free t t (tree.Sprint ps) ts l _ _ p (omega arith) refl
      (own_gives limit program lo l.free t (tree.Sprint ps) l.values (types_in program.adts ts) tt p) (all true)

  -- ---- connectives

  pub as_is : (one two : Slots) (lo hi : ℕ) (ds ds' : List Instr) (got got' : List (Option ℕ)) → ds ≡ ds' → got ≡ got'
      → Holding one two lo hi ds got → Holding one two lo hi ds' got'
  as_is one two lo hi ds ds' got got' e f h =
      subst (λ (x : List Instr). Holding one two lo hi x got') e (subst (λ (x : List (Option ℕ)). Holding one two lo hi ds x) f h)

  clean_put : (slots : Slots) (s a b : ℕ) (x : Slot) → s < length slots → ((n : ℕ) → slot_names x n ≡ 0) → IsWhole x → Clean slots a b
      → Clean (put slots s x) a b
  clean_put slots s a b x l z w c r p q = ⊎_elim
      (λ (e : r ≡ s).
      let y = ap (λ (d : ℕ). slot (put slots s x) d) e ∙ put_same slots s x l in
      ((λ n. ap (λ (y : Slot). slot_names y n) y ∙ z n), ap operands_of y ∙ w))
      (λ (e : r ≡ s → ⊥).
      let y = put_other slots s r x e in
      let d = c r p q in
      ((λ n. ap (λ (y : Slot). slot_names y n) y ∙ d.0 n), ap operands_of y ∙ d.1))
      (cases_eq r s)

  -- a number comes into a slot
  holding_number : (slots : Slots) (s : ℕ) (z : ℤ) → s < length slots → Holding slots (put slots s (Holds (Num z))) s (suc s) [] []
  holding_number slots s z l = holding_put slots s (Num z) [] [] l (owns_none s (Num z) (λ n. refl))

  drops_split : (h : Bool) (d n : ℕ) (ds : List Instr) → (h ≡ false → ds ≡ []) → drops_if h (Mirror d n ∷ ds) ≡ drops_if h
      (Mirror d n ∷ []) ++ ds
  drops_split true d n ds e = refl
  drops_split false d n ds e = sym (e refl)

  -- the left operand doesn't decide
  open_holding : (h : Bool) (slots : Slots) (d n : ℕ) → d < length slots → Clean slots d (suc d)
      → Holding slots (machine.noted slots (if h then Some d else None) false) d (suc d) (drops_if h (Mirror d n ∷ [])) (note h)
  open_holding true slots d n l c =
      let x = holding_number slots d (pos 0) l in
      record {
        long = x.long;
        same = x.same;
        whole = x.whole;
        dropping = enters d n (put_same slots d (Holds (Num (pos 0))) l) none;
        within = ((omega arith, omega arith), tt);
        names = x.names;
      }
  open_holding false slots d n l c = record {
    long = refl;
    same = λ s b. refl;
    whole = λ s w. w;
    dropping = none;
    within = tt;
    names = name_clean slots d (suc d) (omega arith) c;
  }

  -- it decides
  shut_holding : (h : Bool) (slots : Slots) (d hi : ℕ) (ds : List Instr) (z : ℤ) → d < hi → hi < length slots → Clean slots d (suc hi)
      → AllTouch (Between d (suc hi)) ds
      → Holding slots (put (machine.noted slots (if h then Some d else None) true) hi (Holds (Num z))) d (suc hi)
      (drops_if h (Mirror d (length ds) ∷ ds)) (note h)
  shut_holding true slots d hi ds z l m c t =
      let one = put slots d (Holds (Num (pos 1))) in
      let two = put one hi (Holds (Num z)) in
      let long1 = put_long slots d (Holds (Num (pos 1))) in
      record {
        long = put_long one hi (Holds (Num z)) ∙ long1;
        same = λ s b.
            let ne : s ≡ hi → ⊥ = λ e. absurd (elim b [ inl x ↦ omega (arith, x, e, l) | inr x ↦ omega (arith, x, e) ]) in
            let nd : s ≡ d → ⊥ = λ e. absurd (elim b [ inl x ↦ omega (arith, x, e) | inr x ↦ omega (arith, x, e, l) ]) in
            put_other one hi s (Holds (Num z)) ne ∙ put_other slots d s (Holds (Num (pos 1))) nd;
        whole = λ s w. put_whole one hi (Holds (Num z)) refl s (put_whole slots d (Holds (Num (pos 1))) refl s w);
        dropping = passes d (length ds) ds []
            (put_other one hi d (Holds (Num z)) (λ e. absurd (omega (arith, e, l))) ∙ put_same slots d (Holds (Num (pos 1))) (omega arith))
            (sym (append-nil ds)) refl none;
        within = ((omega arith, omega arith), t);
        names = name_clean two d (suc hi) (omega arith)
            (clean_put one hi d (suc hi) (Holds (Num z)) (omega arith) (λ n. refl) refl (clean_put slots d d (suc hi) (Holds (Num (pos 1)))
            (omega arith) (λ n. refl) refl c));
      }
  shut_holding false slots d hi ds z l m c t = record {
    long = put_long slots hi (Holds (Num z));
    same = λ s b. put_other slots hi s (Holds (Num z)) (λ e. absurd
        (elim b [ inl x ↦ omega (arith, x, e, l) | inr x ↦ omega (arith, x, e) ]));
    whole = put_whole slots hi (Holds (Num z)) refl;
    dropping = none;
    within = tt;
    names = name_clean (put slots hi (Holds (Num z))) d (suc hi) (omega arith) (clean_put slots hi d (suc hi) (Holds (Num z)) m
        (λ n. refl) refl c);
  }

  abbrev noting : Bool → (d : ℕ) → Option ℕ
  noting h d = if h then Some d else None

  abbrev skipping : Connective → Bool → (d hi from n : ℕ) → Instr
  skipping k h d hi from n = Skip k hi (noting h d) from n

  -- the left operand decides: its truth is the value, and the right one is passed over
  shut_goes : (C : Term → Block) → Carries limit program (next program.adts) fill C → (k : Connective) (r : Term) (v : Value) (h : Bool)
      (d hi from : ℕ) (ds : List Instr) (n : ℕ) (g : Frame) (held : List (Option ℕ)) → may_hold program.adts r ≡ h → decides k v ≡ true
      → slice_get g.code g.pc ≡ Some (skipping k h d hi from n) → Room g.slots d (suc hi) held → d < hi → slot g.slots from ≡ Holds v
      → AllTouch (Between d (suc hi)) ds
      → Behind limit program ty.Int g d (suc hi) hi (suc g.pc + n) (drops_if h (Mirror d (length ds) ∷ ds)) held (λ x. C (Evaluated x))
      → Going limit program g held (C (Lazy k (Evaluated v) r))
  shut_goes C c k r v h d hi from ds n g held eh eb i room l e t done =
      let x = truth_of v in
      let slots1 = machine.noted g.slots (noting h d) true in
      let slots2 = put slots1 hi (Holds x) in
      gives_always limit program C c g held (note h) (Lazy k (Evaluated v) r) (Evaluated x) (skipping k h d hi from n) (suc g.pc + n)
      slots2 i room.names
      (λ w m below p.
      ap (λ (b : Bool). machine.left_decides limit (code_of program) w (coded m g below p) hi (noting h d) from n b)
      (ap (λ (y : Slot). decides k (value_of y)) e ∙ eb)
      ∙ ap (λ (y : Slot). machine.goes_to w (coded m g below p) (suc g.pc + n) (put slots1 hi (Holds (truth_of (value_of y))))) e)
      (λ w. ap (λ (b : Bool). decided program.adts (memory_of w g) b v r) eb
      ∙ ap (λ (b : Bool). Stepped (memory_of w g) (note b) (Evaluated x)) eh)
      (let f : hi < length g.slots = let q = room.fits in omega arith in
      let q = shut_holding h g.slots d hi ds (truth (holds v)) l f room.clean t in
      done g.into g.variables slots2 x (note h) (held ++ note h) q
      (put_same slots1 hi (Holds x) (noted_long h g.slots d hi f)) (omega arith, omega arith, inr (refl, truth (holds v), refl)) refl)
    where
      noted_long : (h : Bool) (slots : Slots) (d hi : ℕ) → hi < length slots → hi < length (machine.noted slots (noting h d) true)
      noted_long true slots d hi f = let q = put_long slots d (Holds (Num (pos 1))) in omega arith
      noted_long false slots d hi f = f

  -- it doesn't: the right one is evaluated
  open_goes : (C : Term → Block) → Carries limit program (next program.adts) fill C → (k : Connective) (r : Term) (v : Value) (h : Bool)
      (d hi from n m : ℕ) (g : Frame) (held : List (Option ℕ)) → may_hold program.adts r ≡ h → decides k v ≡ false
      → slice_get g.code g.pc ≡ Some (skipping k h d hi from n) → Room g.slots d (suc d) held → slot g.slots from ≡ Holds v
      → ((slots : Slots) → Holding g.slots slots d (suc d) (drops_if h (Mirror d m ∷ [])) (note h)
      → Stands limit program (spot g g.into (suc g.pc) g.variables slots) (held ++ note h) (C (Deciding r)))
      → Going limit program g held (C (Lazy k (Evaluated v) r))
  open_goes C c k r v h d hi from n m g held eh eb i room e done =
      let slots1 = machine.noted g.slots (noting h d) false in
      gives_always limit program C c g held (note h) (Lazy k (Evaluated v) r) (Deciding r) (skipping k h d hi from n) (suc g.pc) slots1 i
      room.names
      (λ w q below p.
      ap (λ (b : Bool). machine.left_decides limit (code_of program) w (coded q g below p) hi (noting h d) from n b)
      (ap (λ (y : Slot). decides k (value_of y)) e ∙ eb))
      (λ w. ap (λ (b : Bool). decided program.adts (memory_of w g) b v r) eb
      ∙ ap (λ (b : Bool). Stepped (memory_of w g) (note b) (Deciding r)) eh)
      (done slots1 (open_holding h g.slots d m (let q = room.fits in omega arith) room.clean))

  truth_goes : (C : Term → Block) → Carries limit program (next program.adts) fill C → (v : Value) (into from : ℕ) (g : Frame)
      (held : List (Option ℕ)) → slice_get g.code g.pc ≡ Some (Truth into from) → Room g.slots into (suc into) held → slot g.slots from ≡
      Holds v
      → Behind limit program ty.Int g into (suc into) into (suc g.pc) [] held (λ x. C (Evaluated x))
      → Going limit program g held (C (Deciding (Evaluated v)))
  truth_goes C c v into from g held i room e done =
      let x = truth_of v in
      let l : into < length g.slots = let q = room.fits in omega arith in
      gives_always limit program C c g held [] (Deciding (Evaluated v)) (Evaluated x) (Truth into from) (suc g.pc)
      (put g.slots into (Holds x)) i room.names
      (λ w m below p. ap (λ (y : Slot). machine.goes_on w (coded m g below p) (put g.slots into (Holds (truth_of (value_of y))))) e)
      (λ w. refl)
      (done g.into g.variables (put g.slots into (Holds x)) x [] (held ++ [])
      (holding_number g.slots into (truth (holds v)) l)
      (put_same g.slots into (Holds x) l) (omega arith, omega arith, inr (refl, truth (holds v), refl)) refl)

  abbrev lazy_code : Connective → Bool → (a b : Lowered) → List Instr
  lazy_code k h a b =
      (a.code ++ (skipping k h a.free b.free a.value (suc (length b.code)) ∷ b.code)) ++ (Truth b.free b.value ∷ [])

  either_way : (X : Type 0) (b : Bool) → (b ≡ true → X) → (b ≡ false → X) → X
  either_way X true f g = f refl
  either_way X false f g = g refl

  pub lazy_goes : (k : Connective) (lo : ℕ) (l r : Term) (h : Bool) (a b : Lowered) → may_hold program.adts r ≡ h → lo ≤ a.free
      → suc a.free ≤ b.free → AllTouch (Between (suc a.free) b.free) b.drops → (h ≡ false → b.drops ≡ [])
      → GoesBy lo l a → GoesBy (suc a.free) r b
      → GoesBy lo (Lazy k l r) (record {
        code = lazy_code k h a b;
        drops = a.drops ++ drops_if h (Mirror a.free (length b.drops) ∷ b.drops);
        value = b.free;
        free = suc b.free;
      })
  lazy_goes k lo l r h a b eh up_left up_right touch nothing_there gl gr C c g held has room done =
      let d : ℕ = a.free in
      let hi : ℕ = suc b.free in
      let own : List Instr = skipping k h d b.free a.value (suc (length b.code)) ∷ b.code in
      let last : List Instr = Truth b.free b.value ∷ [] in
      let has_ab = has_front g.code g.pc (a.code ++ own) last has in
      let has_own = has_back g.code g.pc a.code own has_ab in
      let has_truth = has_back g.code g.pc (a.code ++ own) last has in
      let n1 = length-append a.code own in
      let n2 = length-append (a.code ++ own) last in
      let start : ℕ = g.pc + length a.code in
      let end : ℕ = g.pc + length (lazy_code k h a b) in
      let M : List Instr = drops_if h (Mirror d (length b.drops) ∷ []) in
      let R : List Instr = drops_if h (Mirror d (length b.drops) ∷ b.drops) in
      let split : R ≡ M ++ b.drops = drops_split h d (length b.drops) b.drops nothing_there in
      gl (λ x. C (Lazy k x r)) (carry limit program (next program.adts) fill (next program.adts) fill C c (λ x. Lazy k x r)
      (λ m v. decided program.adts m (decides k v) v r) (λ m t. refl) (λ v t. refl)) g held (has_front g.code g.pc a.code own has_ab)
      (room_front g.slots lo d hi held up_left (omega arith) room)
      (λ j variables slots v got held1 h1 e1 b1 eq1.
      let g1 = spot g j start variables slots in
      let room1 = room_behind g.slots slots lo d hi a.drops held got held1 up_left (omega arith) room h1 eq1 in
      going (either_way (Going limit program g1 held1 (C (Lazy k (Evaluated v) r))) (decides k v)
      (λ (eb : decides k v ≡ true).
      shut_goes C c k r v h d b.free a.value b.drops (suc (length b.code)) g1 held1 eh eb has_own.0 room1 (omega arith) e1
      (touch_wide (suc d) b.free d hi b.drops (omega arith) (omega arith) touch)
      (λ j2 variables2 slots2 x got2 held2 h2 e2 b2 eq2.
      pc_is limit program g j2 end (suc start + suc (length b.code)) variables2 slots2 held2 (C (Evaluated x)) (omega arith)
      (done j2 variables2 slots2 x (got ++ got2) held2 (holding_more g.slots slots slots2 lo d hi a.drops R got got2 up_left
      (omega arith) h1 h2)
      e2 (omega arith, omega arith, b2.2) (onward held got got2 held1 held2 eq1 eq2))))
      (λ (eb : decides k v ≡ false).
      open_goes C c k r v h d b.free a.value (suc (length b.code)) (length b.drops) g1 held1 eh eb has_own.0
      (room_front slots d (suc d) hi held1 (omega arith) (omega arith) room1) e1
      (λ slots2 h2.
      let held2 : List (Option ℕ) = held1 ++ note h in
      let g2 = spot g1 j (suc start) variables slots2 in
      let room2 = room_behind slots slots2 d (suc d) hi M held1 (note h) held2 (omega arith) (omega arith) room1 h2 refl in
      going (gr (λ x. C (Deciding x)) (carry limit program (next program.adts) fill (next program.adts) fill C c Deciding
      (λ m y. Stepped m [] (Evaluated (truth_of y))) (λ m t. refl) (λ y t. refl)) g2 held2 has_own.1
      (room_front slots2 (suc d) b.free hi held2 up_right (omega arith) room2)
      (λ j3 variables3 slots3 x got3 held3 h3 e3 b3 eq3.
      let g3 = spot g2 j3 (suc start + length b.code) variables3 slots3 in
      let at_truth : g.pc + length (a.code ++ own) ≡ suc start + length b.code = omega arith in
      going (truth_goes C c x b.free b.value g3 held3
      (subst (λ (q : ℕ). slice_get g.code q ≡ Some (Truth b.free b.value)) at_truth has_truth.0)
      (room_behind slots2 slots3 (suc d) b.free hi b.drops held2 got3 held3 up_right (omega arith) room2 h3 eq3) e3
      (λ j4 variables4 slots4 y got4 held4 h4 e4 b4 eq4.
      pc_is limit program g j4 end (suc (suc start + length b.code)) variables4 slots4 held4 (C (Evaluated y)) (omega arith)
      (done j4 variables4 slots4 y (((got ++ note h) ++ got3) ++ got4) held4
      (as_is g.slots slots4 lo hi (((a.drops ++ M) ++ b.drops) ++ []) (a.drops ++ R) (((got ++ note h) ++ got3) ++ got4)
      (((got ++ note h) ++ got3) ++ got4)
      (append-nil ((a.drops ++ M) ++ b.drops) ∙ append_assoc a.drops M b.drops ∙ ap (λ (ds : List Instr). a.drops ++ ds) (sym split)) refl
      (holding_more g.slots slots3 slots4 lo b.free hi ((a.drops ++ M) ++ b.drops) [] ((got ++ note h) ++ got3) got4 (omega arith)
      (omega arith)
      (holding_more g.slots slots2 slots3 lo (suc d) b.free (a.drops ++ M) b.drops (got ++ note h) got3 (omega arith) up_right
      (holding_more g.slots slots slots2 lo d (suc d) a.drops M got (note h) up_left (omega arith) h1 h2) h3) h4))
      e4 (omega arith, omega arith, b4.2)
      (onward held ((got ++ note h) ++ got3) got4 held3 held4
      (onward held (got ++ note h) got3 held2 held3 (onward held got (note h) held1 held2 eq1 refl) eq3) eq4))))))))))

  -- ---- assignments with an operator

  abbrev update_code : (a b : LoweredAll) → Operation → Ty → Way → List Instr
  update_code a b o t w =
      (a.code ++ (Give t (tree.Read w) a.free a.values ∷ b.code))
      ++ (Give t (Operate o) b.free (a.free ∷ b.values) ∷ Write t w a.values [] b.free ∷ [])

  abbrev update_drops : (a b : LoweredAll) → Operation → Ty → List Instr
  update_drops a b o t =
      a.drops ++ (drops_from a.free 0 (count_of program.adts t)
      ++ (b.drops ++ drops_if (work_refers program.adts t (Operate o)) (drops_from b.free 0 (count_of program.adts t))))

  reads_place : (t : Ty) (into : ℕ) (m : Memory) (o : Operation) (k : Given) (p : places.Place) (us : Terms) (r : Raising Value) → p.type ≡ t
      → Both program.adts t into (drops_from into 0 (count_of program.adts t)) (λ v. Change o k p (MoreTerms (Evaluated v) us))
      (unless_raised r (evaluation.gets program.adts m t))
      (unless_raised r (λ v. Stepped m (references (fitted program.adts p.type v))
      (Change o k p (MoreTerms (Evaluated (fitted program.adts p.type v)) us))))
  reads_place t into m o k p us (Ok v) e =
      subst (λ (u : Ty). Both program.adts t into (drops_from into 0 (count_of program.adts t))
      (λ v. Change o k p (MoreTerms (Evaluated v) us))
      (Stepped m (references (fitted program.adts t v)) (Evaluated (fitted program.adts t v)))
      (Stepped m (references (fitted program.adts u v)) (Change o k p (MoreTerms (Evaluated (fitted program.adts u v)) us)))) (sym e)
      (gave m (fitted program.adts t v) (references (fitted program.adts t v))
      (owns_row into (fitted program.adts t v) (count_of program.adts t) (counted program.adts t v)) (inl (v, refl)))
  reads_place t into m o k p us (Err text) e = raised text

  changes_place : (t : Ty) (into : ℕ) (m : Memory) (o : Operation) (k : Given) (way : Way) (vs : List Value) (old : Value) (b : Bool)
      (r : Raising Outcome) → passes_on o ≡ b → b ≡ false
      → Both program.adts t into (drops_if (if b then false else refers program.adts t) (drops_from into 0 (count_of program.adts t)))
      (λ v. Put (record { place = record { type = t; way = way; operands = vs }; value = v } ∷ []) (given_by k old v))
      (unless_raised r (evaluation.leaves program.adts m t o))
      (unless_raised r (λ r. Stepped r.memory (got_by o (fitted program.adts t r.value))
      (Put (record { place = record { type = t; way = way; operands = vs }; value = fitted program.adts t r.value } ∷ [])
      (given_by k old (fitted program.adts t r.value)))))
  changes_place t into m o k way vs old true r e f = absurd cc
  changes_place t into m o k way vs old false (Ok r) e f =
      let v = fitted program.adts t r.value in
      let left : Value → Term = λ v. Put (record { place = record { type = t; way = way; operands = vs }; value = v } ∷ [])
      (given_by k old v) in
      let g : got_by o v ≡ references v = ap (λ (c : Bool). if c then [] else references v) e in
      subst (λ (got : List (Option ℕ)). Both program.adts t into
      (drops_if (refers program.adts t) (drops_from into 0 (count_of program.adts t))) left
      (Stepped r.memory got (Evaluated v)) (Stepped r.memory got (left v))) (sym g)
      (gave r.memory v (references v) (owns_fitted program.adts t into r.value) (inl (r.value, refl)))
  changes_place t into m o k way vs old false (Err text) e f = raised text

  given_slot_holds : (k : Given) (slots : Slots) (s d : ℕ) (old new : Value) → slot slots s ≡ Holds old → slot slots d ≡ Holds new
      → slot slots (given_slot program.adts k s d) ≡ Holds (given_by k old new)
  given_slot_holds given_kind.Old slots s d old new e f = e
  given_slot_holds given_kind.New slots s d old new e f = f

  given_fits : (k : Given) (t : Ty) (old new : Value) → Fits program.adts t old → Fits program.adts t new → Fits program.adts t
      (given_by k old new)
  given_fits given_kind.Old t old new a b = a
  given_fits given_kind.New t old new a b = b

  given_between : (k : Given) (lo hi s d : ℕ) → Between lo hi s → Between lo hi d → Between lo hi (given_slot program.adts k s d)
  given_between given_kind.Old lo hi s d b c = b
  given_between given_kind.New lo hi s d b c = c

  pub update_goes : (lo : ℕ) (o : Operation) (k : Given) (t : Ty) (w : Way) (ts us : Terms) (a b : LoweredAll) → passes_on o ≡ false
      → ((v : Value) → fill_all v us ≡ us) → lo ≤ a.free → suc a.free ≤ b.free → AllBy true lo ts a → AllBy true (suc a.free) us b
      → GoesBy lo (Update o k t w ts us) (record {
        code = update_code a b o t w;
        drops = update_drops a b o t;
        value = given_slot program.adts k a.free b.free;
        free = suc b.free;
      })
  update_goes lo o k t w ts us a b op fresh up_left up_right gl gr C c g held has room done =
      let d : ℕ = a.free in
      let hi : ℕ = suc b.free in
      let own : List Instr = Give t (tree.Read w) d a.values ∷ b.code in
      let last : List Instr = Give t (Operate o) b.free (d ∷ b.values) ∷ Write t w a.values [] b.free ∷ [] in
      let has_ab = has_front g.code g.pc (a.code ++ own) last has in
      let has_own = has_back g.code g.pc a.code own has_ab in
      let has_last = has_back g.code g.pc (a.code ++ own) last has in
      let n1 = length-append a.code own in
      let n2 = length-append (a.code ++ own) last in
      let start : ℕ = g.pc + length a.code in
      let end : ℕ = g.pc + length (update_code a b o t w) in
      let D : List Instr = drops_from d 0 (count_of program.adts t) in
      let E : List Instr = drops_if (work_refers program.adts t (Operate o)) (drops_from b.free 0 (count_of program.adts t)) in
      begins ts g held (C (Update o k t w ts us))
      (gl (λ x. C (Update o k t w x us)) (carry limit program (next_all program.adts) fill_all (next program.adts) fill C c
      (λ x. Update o k t w x us)
      (λ m vs. reads_first program.adts m o k (record { type = t; way = w; operands = vs }) us) (λ m x. refl) (λ v x. refl))
      g held (has_front g.code g.pc a.code own has_ab) (room_front g.slots lo d hi held up_left (omega arith) room)
      (λ j variables slots vs got held1 h1 hold1 bs1 fs1 eq1.
      let p : places.Place = record { type = t; way = w; operands = vs } in
      let g1 = spot g j start variables slots in
      let room1 = room_behind g.slots slots lo d hi a.drops held got held1 up_left (omega arith) room h1 eq1 in
      give_goes limit program C c g1 held1 (Update o k t w (evaluated vs) us) t (tree.Read w) d a.values D
      (λ v. Change o k p (MoreTerms (Evaluated v) us)) has_own.0 (room_front slots d (suc d) hi held1 (omega arith) (omega arith) room1)
      (λ x. subst (λ (y : Progress Value Term). Both program.adts t d D (λ v. Change o k p (MoreTerms (Evaluated v) us))
      (performed program.adts (memory_of x g1) t (tree.Read w) (values_of slots a.values)) y)
      (sym (ap (λ (q : Progress (List Value) Terms). after q (λ vs. reads_first program.adts (memory_of x g1) o k
      (record { type = t; way = w; operands = vs }) us)
      (λ ts. Update o k t w ts us)) (evaluated_done limit program (memory_of x g1) vs)))
      (subst (λ (ys : List Value). Both program.adts t d D (λ v. Change o k p (MoreTerms (Evaluated v) us))
      (performed program.adts (memory_of x g1) t (tree.Read w) ys) (reads_first program.adts (memory_of x g1) o k p us))
      (sym (hold_values slots a.values vs hold1)) (reads_place t d (memory_of x g1) o k p us (read (memory_of x g1) p) refl)))
      (λ j2 variables2 slots2 old got2 held2 h2 e2 b2 eq2.
      let g2 = spot g1 j2 (suc start) variables2 slots2 in
      let room2 = room_behind slots slots2 d (suc d) hi D held1 got2 held2 (omega arith) (omega arith) room1 h2 eq2 in
      let c1 = carry limit program (next_all program.adts) fill_all (next program.adts) fill C c (Change o k p)
      (λ m ws. changes program.adts m o k p ws)
      (λ m x. refl) (λ v x. refl) in
      let c2 = carry limit program (next_all program.adts) fill_all (next_all program.adts) fill_all (λ x. C (Change o k p x)) c1
      (MoreTerms (Evaluated old)) (λ m ws. Finished (old ∷ ws)) (λ m x. refl) (λ v x. refl) in
      going (begins us g2 held2 (C (Change o k p (MoreTerms (Evaluated old) us)))
      (gr (λ x. C (Change o k p (MoreTerms (Evaluated old) x))) c2 g2 held2 has_own.1
      (room_front slots2 (suc d) b.free hi held2 up_right (omega arith) room2)
      (λ j3 variables3 slots3 ws got3 held3 h3 hold3 bs3 fs3 eq3.
      let g3 = spot g2 j3 (suc start + length b.code) variables3 slots3 in
      let at_last : g.pc + length (a.code ++ own) ≡ suc start + length b.code = omega arith in
      let has3 = subst (λ (q : ℕ). HasAt g.code q last) at_last has_last in
      let room3 = room_behind slots2 slots3 (suc d) b.free hi b.drops held2 got3 held3 up_right (omega arith) room2 h3 eq3 in
      let old3 : slot slots3 d ≡ Holds old = h3.same d (inl (omega arith)) ∙ e2 in
      let vs3 : AllHold slots3 a.values vs =
      hold_same slots2 slots3 lo d a.values vs bs1 (λ s x. h3.same s (inl (let y = x.1 in omega (arith, y))))
      (hold_same slots slots2 lo d a.values vs bs1 (λ s x. h2.same s (inl x.1)) hold1) in
      let operands3 : values_of slots3 (d ∷ b.values) ≡ old ∷ ws =
      ap (λ (x : Slot). value_of x ∷ values_of slots3 b.values) old3 ∙ ap (λ (ys : List Value). old ∷ ys)
      (hold_values slots3 b.values ws hold3) in
      let left : Value → Term = λ v. Put (record { place = p; value = v } ∷ []) (given_by k old v) in
      give_goes limit program C c g3 held3 (Change o k p (evaluated (old ∷ ws))) t (Operate o) b.free (d ∷ b.values) E left has3.0 room3
      (λ x. subst (λ (y : Progress Value Term). Both program.adts t b.free E left (performed program.adts (memory_of x g3) t (Operate o)
      (values_of slots3 (d ∷ b.values))) y)
      (sym (ap (λ (q : Progress (List Value) Terms). after q (λ ys. changes program.adts (memory_of x g3) o k p ys) (Change o k p))
      (evaluated_done limit program (memory_of x g3) (old ∷ ws))))
      (subst (λ (ys : List Value). Both program.adts t b.free E left (performed program.adts (memory_of x g3) t (Operate o) ys)
      (changes program.adts (memory_of x g3) o k p (old ∷ ws))) (sym operands3)
      (changes_place t b.free (memory_of x g3) o k w vs old (passes_on o) (result_of program.adts (memory_of x g3) t o (old ∷ ws)) refl
      op)))
      (λ j4 variables4 slots4 new got4 held4 h4 e4 b4 eq4.
      let pc4 : ℕ = suc (suc start + length b.code) in
      let g4 = spot g3 j4 pc4 variables4 slots4 in
      let vs4 = hold_same slots3 slots4 lo d a.values vs bs1 (λ s x. h4.same s (inl (let y = x.1 in omega (arith, y, up_right)))) vs3 in
      let old4 : slot slots4 d ≡ Holds old = h4.same d (inl (omega arith)) ∙ old3 in
      let room4 = room_behind slots3 slots4 b.free hi hi E held3 got4 held4 (omega arith) (omega arith) room3 h4 eq4 in
      let got_all : List (Option ℕ) = ((got ++ got2) ++ got3) ++ got4 in
      let all_held : held4 ≡ held ++ got_all =
      onward held ((got ++ got2) ++ got3) got4 held3 held4
      (onward held (got ++ got2) got3 held2 held3 (onward held got got2 held1 held2 eq1 eq2) eq3) eq4 in
      let whole : Holding g.slots slots4 lo hi (update_drops a b o t) got_all =
      as_is g.slots slots4 lo hi (((a.drops ++ D) ++ b.drops) ++ E) (update_drops a b o t) got_all got_all
      (append_assoc (a.drops ++ D) b.drops E ∙ append_assoc a.drops D (b.drops ++ E)) refl
      (holding_more g.slots slots3 slots4 lo b.free hi ((a.drops ++ D) ++ b.drops) E ((got ++ got2) ++ got3) got4 (omega arith)
      (omega arith)
      (holding_more g.slots slots2 slots3 lo (suc d) b.free (a.drops ++ D) b.drops (got ++ got2) got3 (omega arith) up_right
      (holding_more g.slots slots slots2 lo d (suc d) a.drops D got got2 up_left (omega arith) h1 h2) h3) h4) in
      let v : Value = given_by k old new in
      going (store_goes limit program C c g4 held4 (left new) (Evaluated v) (Write t w a.values [] b.free) has3.1.0 room4.names
      (λ x. written program.adts (memory_of x g4) p new)
      (λ x n below q.
      ap (λ (ys : List Value). machine.stores limit (code_of program) x (coded n g4 below q) (record { type = t; way = w; operands = ys })
      (value_of (slot slots4 b.free))) (hold_values slots4 a.values vs vs4)
      ∙ ap (λ (y : Slot). machine.stores limit (code_of program) x (coded n g4 below q) p (value_of y)) e4)
      (λ x. refl)
      (λ variables5.
      pc_is limit program g4 j4 end (suc pc4) variables5 slots4 held4 (C (Evaluated v)) (omega arith)
      (done j4 variables5 slots4 v got_all held4 whole (given_slot_holds k slots4 d b.free old new old4 e4)
      (let w = given_between k lo hi d b.free (up_left, omega arith) (omega arith, omega arith) in
      (w.0, w.1, given_fits k t old new b2.2 b4.2)) all_held))))))))))

  -- ---- a value that is known, for variables that are declared without one

  pub known_goes : (v : Value) (lo : ℕ) (g : Frame) (held : List (Option ℕ)) (todo : Block) → references v ≡ []
      → slice_get g.code g.pc ≡ Some (Known v lo) → 1 < place_at (slice_get g.code (suc g.pc)) → Room g.slots lo (suc lo) held
      → ((slots : Slots) → Holding g.slots slots lo (suc lo) [] [] → slot slots lo ≡ Holds v
      → Stands limit program (spot g g.into (suc g.pc) g.variables slots) held todo)
      → Going limit program g held todo
  known_goes v lo g held todo e i rank room done =
      let l : lo < length g.slots = let q = room.fits in omega arith in
      let slots1 = put g.slots lo (Holds v) in
      obeying (Known v lo) room.names i
      (λ w. rests (suc g.pc) slots1 (λ n below p. refl) rank
      (done slots1 (holding_put g.slots lo v [] [] l (owns_none lo v (λ n. ap (among n) e))) (put_same g.slots lo (Holds v) l)))

  declared_goes : (lo : ℕ) (us : List Ty) (t : Ty) (a : Aim) (aims : List Aim) (v : Value) → operands_for (a ∷ aims) ≡ 0 → v ≡ nothing
      → GoesBy lo (Node t (tree.Assign (a ∷ aims)) (MoreTerms (Evaluated v) NoTerms))
      (node program.adts us t (tree.Assign (a ∷ aims)) (lower_all program.adts lo (MoreTerms (Evaluated v) NoTerms)))
  declared_goes lo us t a aims v none_there e C c g held has room done =
      let ss : List ℕ = lo ∷ [] in
      let n : ℕ = operands_for (a ∷ aims) in
      let is : List Instr = writes program.adts (a ∷ aims) ss (slot_at n ss) in
      known_goes v lo g held (C (Node t (tree.Assign (a ∷ aims)) (evaluated (v ∷ [])))) (ap references e) has.0
      (subst (λ (o : Option Instr). 1 < place_at o) (sym has.1.0) (omega arith)) room
      (λ slots h1 e1.
      let g1 = spot g g.into (suc g.pc) g.variables slots in
      let held1 : held ≡ held ++ [] = sym (append-nil held) in
      going (own_writes limit program lo (suc lo) t a aims ss (ty.Nothing ∷ []) (omega (arith, none_there)) C c g1 held (v ∷ []) has.1
      (room_behind g.slots slots lo (suc lo) (suc lo) [] held [] held (omega arith) (omega arith) room h1 held1) (e1, tt)
      ((omega arith, omega arith), tt) (inl (v, e), tt)
      (λ j variables slots2 x got held' h2 e2 b2 eq2.
      pc_is limit program g j (g.pc + suc (length is)) (suc g.pc + length is) variables slots2 held' (C (Evaluated x)) (omega arith)
      (done j variables slots2 x got held' (holding_more g.slots slots slots2 lo (suc lo) (suc lo) [] [] [] got (omega arith)
      (omega arith) h1 h2) e2
      (b2.0, b2.1, subst (λ (u : Ty). Fits program.adts u x) (types_at (operands_for (a ∷ aims)) (MoreTerms (Evaluated v) NoTerms)) b2.2)
      eq2))))

  -- ---- all trees

  calls_by : (lo : ℕ) (t : Ty) (f : ℕ) (ts : Terms) → AllHandled program.adts ts → PlacedBy lo ts (lower_all program.adts lo ts)
      → GoesBy lo (Node t (tree.Call f) ts) (lower program.adts lo (Node t (tree.Call f) ts))
  calls_by lo t f NoTerms h placed = call_alone lo t f
  calls_by lo t f (MoreTerms u us) h placed =
      let ts : Terms = MoreTerms u us in
      call_by lo t f ts (lower_all program.adts lo ts) (terms_up program.adts lo ts) (values_counted program.adts lo ts) (omega arith)
      (values_stand program.adts ts h lo) (values_differ program.adts ts h lo) placed

  prints_by : (lo : ℕ) (t : Ty) (ps : List Piece) (ts : Terms) → t ≡ ty.Int → AllHandled program.adts ts
      → PlacedBy lo ts (lower_all program.adts lo ts)
      → GoesBy lo (Node t (tree.Print ps) ts) (lower program.adts lo (Node t (tree.Print ps) ts))
  prints_by lo t ps NoTerms e h placed = print_alone lo t ps e
  prints_by lo t ps (MoreTerms u us) e h placed =
      let ts : Terms = MoreTerms u us in
      print_by lo t ps ts (lower_all program.adts lo ts) e (terms_up program.adts lo ts) (values_counted program.adts lo ts) (omega arith)
      (values_stand program.adts ts h lo) (values_differ program.adts ts h lo) placed

  pub node_either : (lo : ℕ) (t : Ty) (o : Work) (ts : Terms) → (Suits program.adts t o ts × AllHandled program.adts ts) ⊎ Declares o ts
      → (AllHandled program.adts ts → (b : Bool) → AllBy b lo ts (lower_all program.adts lo ts))
      → (AllHandled program.adts ts → EachBy lo ts) → GoesBy lo (Node t o ts) (lower program.adts lo (Node t o ts))
  node_either lo t o ts (inl x) all each =
      let placed = all_placed ts x.1 lo (each x.1) in
      node_goes lo t o ts (lower_all program.adts lo ts) (terms_up program.adts lo ts)
      (values_counted program.adts lo ts) x.0 (values_stand program.adts ts x.1 lo)
      (values_differ program.adts ts x.1 lo) (all x.1) placed (λ f. calls_by lo t f ts x.1 placed)
      (λ ps e. prints_by lo t ps ts e x.1 placed)
  node_either lo t (tree.Assign (a ∷ aims)) (MoreTerms (Evaluated v) NoTerms) (inr d) all each =
      declared_goes lo (types_in program.adts (MoreTerms (Evaluated v) NoTerms)) t a aims v d.0 d.1
  node_either lo t _ _ (inr d) all each = absurd d
