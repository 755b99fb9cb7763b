-- All expressions: what the code of a tree does is what the tree does, whatever comes behind.
use Rattle.std.proofs.Common.{◌≡◌, ℕ, ℤ, suc, ◌+◌, ◌-◌, ◌<◌, ◌≤◌, Bool, true, false, List, [], ◌∷◌, ◌++◌, length, Option, Some}
use Rattle.std.proofs.Common.{refl, sym, ap, subst, ◌∙◌, arith, append-nil, append_assoc, length-append, inl, inr, ◌⊎◌}
use Rattle.std.specs.Prelude.{slice_get, if◌then◌else◌}
use Rattle.limbo_types.specs.Types.{Ty}
use Rattle.limbo_meaning.specs.Values.{Value}
use Rattle.limbo_meaning.specs.Trees.{Term, Evaluated, Node, Lazy, Update, Fill, Block, Operate, Terms}
use Rattle.limbo_meaning.specs.Trees.{NoTerms, MoreTerms}
use Rattle.limbo_meaning.specs.Evaluation as evaluation
use Rattle.limbo_meaning.specs.Evaluation.{Progress, Finished, Stepped, after, unless_raised, next, next_all, fill, fill_all, performed}
use Rattle.limbo_meaning.specs.Evaluation.{passes_on, got_by, work_refers, refers, may_hold, note, operands_for, decided, reads_first}
use Rattle.limbo_meaning.specs.Evaluation.{changes}
use Rattle.limbo_meaning.specs.Evaluation.{given_by}
use Rattle.limbo_meaning.specs.Program.{Program}
use Rattle.core_code.specs.Slots.{Holds, Slots, slot, put}
use Rattle.core_code.specs.Code.{Instr, Give}
use Rattle.core_code.specs.Machine.{Frame, at}
use Rattle.core_code.specs.Terms.{Lowered}
use Rattle.core_code.specs.Terms.{lower, lower_all}
use Rattle.core_code.proofs.Used.{term_up, terms_up}
use Rattle.core_follows.specs.Drops.{Clean, HasAt, Holding}
use Rattle.core_follows.specs.Stands.{Stands, Going, going, obeying}
use Rattle.core_follows.specs.Stands.{place_at, rests}
use Rattle.core_follows.specs.Handled.{IsKnown, Handled, AllHandled}
use Rattle.core_follows.proofs.Slots.{put_same, put_other, put_long, put_whole}
use Rattle.core_follows.proofs.Holding.{has_front, has_back, Room, room_front, room_behind, holding_none, holding_more}
use Rattle.core_follows.proofs.Contexts.{Carries, carry}
use Rattle.core_follows.proofs.Static.{drops_within, no_drops}
use Rattle.core_follows.proofs.Nodes.{between_wide, evaluated}
use Rattle.core_follows.proofs.Nodes.{spot, pc_is}
use Rattle.core_follows.proofs.Terms.{GoesBy, Comes, comes, begun, AllBy, EachBy, node_either, lazy_goes, update_goes, known_goes, onward}
use Rattle.core_follows.proofs.Terms.{as_is, handled_fill_all}
use Rattle.std.specs.Prelude.{max}
use Rattle.std.specs.List.{range_with_len}
use Rattle.limbo_types.specs.Types as ty
use Rattle.limbo_typed.specs.declared.operation.Operation.TheVariants as operation
use Rattle.limbo_meaning.specs.Values.{Array, Part}
use Rattle.limbo_meaning.specs.Trees.{Filling, Items, NoItems, MoreItems}
use Rattle.limbo_meaning.specs.Evaluation.{element_at, others_of, left_of, fill_rest, fill_on, fills}
use Rattle.core_code.specs.Slots.{Turns, NoRegion}
use Rattle.core_code.specs.Code.{Drop, Element, Start}
use Rattle.core_code.specs.Terms.{others, named, lower_items, lower_rest, items_end, rest_end}
use Rattle.core_code.proofs.Used.{either_up, end_up, items_up, rest_up}
use Rattle.core_follows.specs.Drops.{last}
use Rattle.core_follows.specs.Handled.{HandledItems, HandledRest}
use Rattle.core_follows.proofs.Slots.{clean_same, clean_within}
use Rattle.core_follows.proofs.Valued.{Valued, value_stands}
use Rattle.core_follows.proofs.Filling.{Space, Grown, grown_none, grown_more, grown_own, grown_shared, grown_whole, space_behind}
use Rattle.core_follows.proofs.Filling.{no_more_held, array_goes, element_goes, Own, Between_turns, turns_own, loop_own, drops_own}
use Rattle.core_follows.proofs.Filling.{Shares, Between_shared, turns_shared, loop_shared, put_names}

module _ (limit : ℕ) (program : Program) where
  -- ---- initialisers

  abbrev ItemsBy : (t : Ty) (a shared from lo : ℕ) → Items → Lowered → Type 0
  ItemsBy t a shared from lo is x =
      (ns : List ℕ) (rest : Terms) (p : Part) (C : Term → Block) → Carries limit program (next program.adts) fill C → (g : Frame)
      (held : List (Option ℕ)) (hi : ℕ) → HasAt g.code g.pc x.code → Space g.slots shared from lo hi held → x.free ≤ hi → a < shared
      → slot g.slots a ≡ Holds (Array (Some p))
      → ((j : ℕ) (variables : List Value) (slots : Slots) (got held' : List (Option ℕ)) → Grown g.slots slots shared from lo x.free
      x.drops got
      → held' ≡ held ++ got
      → Stands limit program (spot g j (g.pc + length x.code) variables slots) held' (C (fill_rest t p ns rest)))
      → Stands limit program g held (C (fill_on t p is ns rest))

  abbrev RestBy : (t : Ty) (a : ℕ) → Items → (shared from lo : ℕ) → Terms → Lowered → Type 0
  RestBy t a is shared from lo rest x =
      (p : Part) (C : Term → Block) → Carries limit program (next program.adts) fill C → (g : Frame) (held : List (Option ℕ)) (hi : ℕ)
      → HasAt g.code g.pc x.code → Space g.slots shared from lo hi held → x.free ≤ hi → a < shared → slot g.slots a ≡ Holds (Array (Some p))
      → ((j : ℕ) (variables : List Value) (slots : Slots) (got held' : List (Option ℕ)) → Grown g.slots slots shared from lo x.free
      x.drops got
      → held' ≡ held ++ got
      → Stands limit program (spot g j (g.pc + length x.code) variables slots) held' (C (Evaluated (Array (Some p)))))
      → Stands limit program g held (C (fill_rest t p (others_of is p.long) rest))

  here_stands : (g : Frame) (held : List (Option ℕ)) (todo : Block) → Stands limit program (spot g g.into (g.pc + 0) g.variables g.slots)
      held todo
      → Stands limit program g held todo
  here_stands g held todo s = pc_is limit program g g.into (g.pc + 0) g.pc g.variables g.slots held todo (omega arith) s

  item_free : (b : Bool) (lo shared : ℕ) (e : Term) → b ≡ false
      → (lower program.adts (if b then lo else shared) e).free ≡ (lower program.adts shared e).free
  item_free true lo shared e q = absurd cc
  item_free false lo shared e q = refl

  item_end : (b : Bool) (shared from alone start free : ℕ) → (b ≡ false → free ≡ alone) → (if b then shared else alone) ≤ from
      → b ≡ false → free ≤ from
  item_end true shared from alone start free e l q = absurd cc
  item_end false shared from alone start free e l q = let f = e refl in omega arith

  in_filling : (t : Ty) (p : Part) (z : ℤ) (is : Items) (ns : List ℕ) (rest : Terms) (C : Term → Block)
      → Carries limit program (next program.adts) fill C
      → Carries limit program (next program.adts) fill (λ y. C (Filling t p (MoreItems z y is) ns rest))
  in_filling t p z is ns rest C c =
      carry limit program (next program.adts) fill (next program.adts) fill C c (λ y. Filling t p (MoreItems z y is) ns rest)
      (λ m v. evaluation.stores program.adts m (element_at t p z) v (fill_on t p is ns rest)) (λ m y. refl) (λ v y. refl)

  -- An element that is written.
  item_goes : (b : Bool) (t : Ty) (e : Term) (z : ℤ) (is : Items) (ns : List ℕ) (rest : Terms) (p : Part) (a shared from lo hi : ℕ)
      (x : Lowered)
      → may_hold program.adts e ≡ b → GoesBy limit program (if b then lo else shared) e x → (may_hold program.adts e ≡ false → x.drops ≡ [])
      → (if b then lo else shared) ≤ x.free → (if b then x.free else lo) ≤ hi → (b ≡ false → x.free ≤ from)
      → (C : Term → Block) → Carries limit program (next program.adts) fill C → (g : Frame) (held : List (Option ℕ))
      → HasAt g.code g.pc x.code → slice_get g.code (g.pc + length x.code) ≡ Some (Element t a z x.value)
      → Space g.slots shared from lo hi held → a < shared → slot g.slots a ≡ Holds (Array (Some p))
      → ((j : ℕ) (variables : List Value) (slots : Slots) (got held' : List (Option ℕ))
      → Grown g.slots slots shared from lo (if b then x.free else lo) x.drops got → held' ≡ held ++ got
      → Stands limit program (spot g j (suc (g.pc + length x.code)) variables slots) held' (C (fill_on t p is ns rest)))
      → Going limit program g held (C (Filling t p (MoreItems z e is) ns rest))
  item_goes true t e z is ns rest p a shared from lo hi x eh ge nothing_there up fits end C c g held has at space below array k =
      let mid = space.mid in
      let low = space.low in
      ge (λ y. C (Filling t p (MoreItems z y is) ns rest)) (in_filling t p z is ns rest C c) g held has
      (record {
        order = up;
        fits = let q = space.fits in omega arith;
        clean = clean_within g.slots lo hi lo x.free (omega arith) fits
            space.clean;
        names = space.names;
      })
      (λ j variables slots v got held' h ev bv eq.
      let room : Room g.slots lo x.free held = record {
        order = up;
        fits = let q = space.fits in omega arith;
        clean = clean_within
            g.slots lo hi lo x.free (omega arith) fits space.clean;
        names = space.names;
      } in
      let room2 = room_behind g.slots slots lo x.free x.free x.drops held got held' up (omega arith) room h eq in
      going (element_goes limit program C c (spot g j (g.pc + length x.code) variables slots) held' t p z v
      (Filling t p (MoreItems z (Evaluated v) is) ns rest) (fill_on t p is ns rest) a x.value at room2.names
      (h.same a (inl (omega arith)) ∙ array) ev (λ m. refl)
      (λ variables2. k j variables2 slots got held' (grown_own g.slots slots shared from lo x.free x.drops got mid space.shares h) eq)))
  item_goes false t e z is ns rest p a shared from lo hi x eh ge nothing_there up fits end C c g held has at space below array k =
      let mid = space.mid in
      let low = space.low in
      let end_x = end refl in
      let room : Room g.slots shared x.free held = record {
        order = up;
        fits = let q = space.fits in let r = space.order in omega arith;
        clean = clean_within g.slots shared from shared x.free (omega arith) end_x space.shares;
        names = space.names;
      } in
      ge (λ y. C (Filling t p (MoreItems z y is) ns rest)) (in_filling t p z is ns rest C c) g held has room
      (λ j variables slots v got held' h ev bv eq.
      let room2 = room_behind g.slots slots shared x.free x.free x.drops held got held' up (omega arith) room h eq in
      let none_dropped = nothing_there eh in
      let got_none : got ≡ [] = no_more_held slots x.drops got none_dropped h.dropping in
      let h' : Holding g.slots slots shared x.free [] [] = as_is limit program g.slots slots shared x.free x.drops [] got [] none_dropped
      got_none h in
      let grown = grown_shared g.slots slots shared from x.free lo up end_x mid space.shares h' in
      let grown' : Grown g.slots slots shared from lo lo x.drops got = subst (λ (ds : List Instr). Grown g.slots slots shared from lo lo
      ds got) (sym none_dropped)
      (subst (λ (y : List (Option ℕ)). Grown g.slots slots shared from lo lo [] y) (sym got_none) grown) in
      going (element_goes limit program C c (spot g j (g.pc + length x.code) variables slots) held' t p z v
      (Filling t p (MoreItems z (Evaluated v) is) ns rest) (fill_on t p is ns rest) a x.value at room2.names (h.same a (inl below)
      ∙ array) ev (λ m. refl)
      (λ variables2. k j variables2 slots got held' grown' eq)))

  -- The element of the others, in turns.
  others_go : (b : Bool) (t : Ty) (e : Term) (es : Terms) (a : ℕ) (is : Items) (shared from lo : ℕ) → may_hold program.adts e ≡ b
      → from ≤ lo
      → (if b then shared else (lower program.adts shared e).free) ≤ from → ((at : ℕ) → GoesBy limit program at e (lower program.adts at e))
      → Valued (suc lo) (lower program.adts (suc lo) e)
      → RestBy t a is shared from lo (MoreTerms e es)
      (others program.adts b t a (named program.adts is) lo (lower program.adts (if b then suc lo else shared) e))
  others_go true t e es a is shared from lo eh f m ge v p C c g held hi has space l below array k =
      let x = lower program.adts (suc lo) e in
      let begun = Turns 0 NoRegion in
      let one = put g.slots lo begun in
      let low = space.low in
      let mid = space.mid in
      let fits = space.fits in
      let v0 = v.between.0 in
      let v1 = v.between.1 in
      let long1 = put_long g.slots lo begun in
      let clean_lo : Clean g.slots lo x.free = clean_within g.slots lo hi lo x.free (omega arith) l space.clean in
      let own : Own limit program C g t e x a lo (suc g.pc) is = record {
        carries = c;
        element = ge (suc lo);
        holds = eh;
        below = omega arith;
        value = v.between;
        touches = drops_within program.adts (suc lo) e;
        has = has.1;
      } in
      let b : Between_turns limit program g.slots one t p x a lo 0 is (others_of is p.long) NoRegion held held [] = record {
        long = long1;
        same = λ s d. put_other g.slots lo s begun (λ q. absurd (elim d [
          | inl y ↦ omega (arith, y, q)
          | inr y ↦ omega
              (arith, y, q, v0, v1)
        ]));
        fits = omega arith;
        array = put_other g.slots lo a begun (λ q. absurd (omega (arith, q, below, low, mid))) ∙ array;
        whole = put_whole g.slots lo begun refl;
        loop = put_same g.slots lo begun (omega arith);
        turns = last;
        left = let z : p.long - 0 ≡ p.long = omega arith in ap (λ (y : ℕ). left_of is (range_with_len 0 y)) (sym z);
        clean = clean_same g.slots one (suc lo) x.free (λ s q r. put_other g.slots lo s begun (λ y. absurd (omega (arith, y, q))))
            (clean_within g.slots lo x.free (suc lo) x.free (omega arith) (omega arith) clean_lo);
        names = put_names limit program g.slots lo begun held (omega arith) (clean_lo lo (omega arith) (omega arith)).0 (λ n. refl)
            space.names;
        is_held = sym (append-nil held);
      } in
      going (obeying (Start lo) space.names has.0 (λ w. rests (suc g.pc) one (λ n below2 q. refl)
      (subst (λ (o : Option Instr). 0 < place_at o) (sym has.1.0) (omega arith))
      (going (turns_own limit program C g t e x a lo (suc g.pc) is p own (others_of is p.long) g.slots one 0 NoRegion held held [] g.into
      g.variables b
      (λ j variables slots got held' h eq.
      let loop = length (loop_own limit program t a lo (named program.adts is) x) in
      pc_is limit program g j (g.pc + suc loop) (suc g.pc + loop) variables slots held' (C (Evaluated (Array (Some p)))) (omega arith)
      (k j variables slots got held' (grown_own g.slots slots shared from lo x.free (drops_own limit program lo x) got mid space.shares
      h) eq))))))
  others_go false t e es a is shared from lo eh f m ge v p C c g held hi has space l below array k =
      let x = lower program.adts shared e in
      let begun = Turns 0 NoRegion in
      let one = put g.slots lo begun in
      let low = space.low in
      let mid = space.mid in
      let fits = space.fits in
      let in_slots : lo < length g.slots = omega arith in
      let own : Shares limit program C g t e x a shared from lo (suc g.pc) is = record {
        carries = c;
        element = ge shared;
        holds = eh;
        nothing_dropped = no_drops program.adts shared e eh;
        below = below;
        up = term_up program.adts shared e;
        end = m;
        mid = mid;
        has = has.1;
      } in
      let b : Between_shared limit program g.slots one p a shared from lo 0 is (others_of is p.long) held = record {
        long = put_long g.slots lo begun;
        same = λ s d q. put_other g.slots lo s begun (λ r. absurd (elim q [ inl y ↦ omega (arith, y, r) | inr y ↦ omega (arith, y, r) ]));
        fits = let q = put_long g.slots lo begun in omega arith;
        shares = clean_same g.slots one shared from (λ s q r. put_other g.slots lo s begun (λ y. absurd (omega (arith, y, r, mid))))
            space.shares;
        array = put_other g.slots lo a begun (λ q. absurd (omega (arith, q, below, low, mid))) ∙ array;
        whole = put_whole g.slots lo begun refl;
        loop = put_same g.slots lo begun in_slots;
        left = let z : p.long - 0 ≡ p.long = omega arith in ap (λ (y : ℕ). left_of is (range_with_len 0 y)) (sym z);
        names = put_names limit program g.slots lo begun held in_slots (space.clean lo (omega arith) (omega arith)).0 (λ n. refl) space.names;
      } in
      going (obeying (Start lo) space.names has.0 (λ w. rests (suc g.pc) one (λ n below2 q. refl)
      (subst (λ (o : Option Instr). 0 < place_at o) (sym has.1.0) (omega arith))
      (going (turns_shared limit program C g t e x a shared from lo (suc g.pc) is p own (others_of is p.long) g.slots one 0 held g.into
      g.variables b
      (λ j variables slots grown.
      let loop = length (loop_shared limit program t a lo (named program.adts is) x) in
      pc_is limit program g j (g.pc + suc loop) (suc g.pc + loop) variables slots held (C (Evaluated (Array (Some p)))) (omega arith)
      (k j variables slots [] held grown (sym (append-nil held))))))))

  -- The length, which may be known.
  abbrev LengthBy : (lo : ℕ) → Term → Lowered → Type 0
  LengthBy lo l x =
      (C : Term → Block) → Carries limit program (next program.adts) fill C → (g : Frame) (held : List (Option ℕ)) → HasAt g.code g.pc
      x.code
      → 1 < place_at (slice_get g.code (g.pc + length x.code)) → Room g.slots lo x.free held
      → ((j : ℕ) (variables : List Value) (slots : Slots) (v : Value) (got held' : List (Option ℕ)) → Holding g.slots slots lo x.free
      x.drops got
      → slot slots x.value ≡ Holds v → held' ≡ held ++ got
      → Stands limit program (spot g j (g.pc + length x.code) variables slots) held' (C (Evaluated v))) → Going limit program g held
      (C l)

  known_length : (lo : ℕ) (l : Term) → IsKnown l ⊎ Handled program.adts l
      → (Handled program.adts l → GoesBy limit program lo l (lower program.adts lo l))
      → LengthBy lo l (lower program.adts lo l)
  known_length lo (Evaluated v) (inl e) ge C c g held has rank room k =
      let z : g.pc + 1 ≡ suc g.pc = omega arith in
      known_goes limit program v lo g held (C (Evaluated v)) e has.0 (subst (λ (q : ℕ). 1 < place_at (slice_get g.code q)) z rank) room
      (λ slots h at. pc_is limit program g g.into (g.pc + 1) (suc g.pc) g.variables slots held (C (Evaluated v)) z
      (k g.into g.variables slots v [] held h at (sym (append-nil held))))
  known_length lo l (inr h) ge C c g held has rank room k = ge h C c g held has room
      (λ j variables slots v got held' y e b eq. k j variables slots v got held' y e eq)
  known_length lo _ (inl e) ge C c g held has rank room k = absurd e

  fill_goes : (lo : ℕ) (t : Ty) (l : Term) (is : Items) (rest : Terms) (n es os : Lowered) (from : ℕ) → LengthBy lo l n → lo ≤ n.free
      → suc n.free ≤ from → from ≤ es.free → es.free ≤ os.free → ItemsBy t n.free (suc n.free) from from is es
      → RestBy t n.free is (suc n.free) from es.free rest os
      → GoesBy limit program lo (Fill t l is rest) (record {
        code = (n.code ++ (Give (ty.ArrayOf t) (Operate operation.NewArray) n.free (n.value ∷ []) ∷ es.code)) ++ os.code;
        drops = (n.drops ++ (Drop n.free 0 ∷ es.drops)) ++ os.drops;
        value = n.free;
        free = os.free;
      })
  fill_goes lo t l is rest n es os from length_by up1 up2 up3 up4 items others C c g held has room k =
      let shared : ℕ = suc n.free in
      let hi : ℕ = os.free in
      let give = Give (ty.ArrayOf t) (Operate operation.NewArray) n.free (n.value ∷ []) in
      let A : List Instr = n.code ++ (give ∷ es.code) in
      let has_A = has_front g.code g.pc A os.code has in
      let has_os = has_back g.code g.pc A os.code has in
      let has_give = has_back g.code g.pc n.code (give ∷ es.code) has_A in
      let m1 = length-append n.code (give ∷ es.code) in
      let m2 = length-append A os.code in
      let start : ℕ = g.pc + length n.code in
      let end : ℕ = g.pc + length (A ++ os.code) in
      length_by (λ x. C (Fill t x is rest))
      (carry limit program (next program.adts) fill (next program.adts) fill C c (λ x. Fill t x is rest)
      (λ m v. fills program.adts m t is rest v) (λ m x. refl) (λ v x. refl))
      g held (has_front g.code g.pc n.code (give ∷ es.code) has_A) (subst (λ (o : Option Instr). 1 < place_at o) (sym has_give.0)
      (omega arith))
      (room_front g.slots lo n.free hi held up1 (omega arith) room)
      (λ j variables slots v got held1 h1 e1 eq1.
      let g1 = spot g j start variables slots in
      let room1 = room_behind g.slots slots lo n.free hi n.drops held got held1 up1 (omega arith) room h1 eq1 in
      going (array_goes limit program C c g1 held1 t v is rest n.free n.value has_give.0 (room_front slots n.free shared hi held1
      (omega arith) (omega arith) room1) e1
      (λ variables2 p h2.
      let x : Value = Array (Some p) in
      let slots2 = put slots n.free (Holds x) in
      let held2 : List (Option ℕ) = held1 ++ (Some p.array ∷ []) in
      let g2 = spot g1 j (suc start) variables2 slots2 in
      let room2 = room_behind slots slots2 n.free shared hi (Drop n.free 0 ∷ []) held1 (Some p.array ∷ []) held2 (omega arith)
      (omega arith) room1 h2 refl in
      let array2 : slot slots2 n.free ≡ Holds x = put_same slots n.free (Holds x) (let q = room1.fits in omega arith) in
      let space2 : Space slots2 shared from from hi held2 = record {
        low = up2;
        mid = omega arith;
        order = omega arith;
        fits = room2.fits;
        shares = clean_within slots2 shared hi shared from (omega arith) (omega arith) room2.clean;
        clean = clean_within slots2 shared hi from hi up2 (omega arith) room2.clean;
        names = room2.names;
      } in
      items (others_of is p.long) rest p C c g2 held2 hi has_give.1 space2 up4 (omega arith) array2
      (λ j3 variables3 slots3 got3 held3 grown3 eq3.
      let pc3 : ℕ = suc start + length es.code in
      let g3 = spot g2 j3 pc3 variables3 slots3 in
      let at_os : g.pc + length A ≡ pc3 = omega arith in
      let array3 : slot slots3 n.free ≡ Holds x = grown3.same n.free (inl (omega arith)) (inl up2) ∙ array2 in
      others p C c g3 held3 hi (subst (λ (q : ℕ). HasAt g.code q os.code) at_os has_os)
      (space_behind slots2 slots3 shared from from es.free hi es.drops held2 got3 held3 up3 up4 space2 grown3 eq3) (omega arith)
      (omega arith) array3
      (λ j4 variables4 slots4 got4 held4 grown4 eq4.
      pc_is limit program g3 j4 end (pc3 + length os.code) variables4 slots4 held4 (C (Evaluated x)) (omega arith)
      (k j4 variables4 slots4 x ((got ++ (Some p.array ∷ [])) ++ (got3 ++ got4)) held4
      (as_is limit program g.slots slots4 lo hi ((n.drops ++ (Drop n.free 0 ∷ [])) ++ (es.drops ++ os.drops))
      ((n.drops ++ (Drop n.free 0 ∷ es.drops)) ++ os.drops)
      ((got ++ (Some p.array ∷ [])) ++ (got3 ++ got4)) ((got ++ (Some p.array ∷ [])) ++ (got3 ++ got4))
      (append_assoc n.drops (Drop n.free 0 ∷ []) (es.drops ++ os.drops) ∙ sym (append_assoc n.drops (Drop n.free 0 ∷ es.drops) os.drops))
      refl
      (holding_more g.slots slots2 slots4 lo shared hi (n.drops ++ (Drop n.free 0 ∷ [])) (es.drops ++ os.drops)
      (got ++ (Some p.array ∷ [])) (got3 ++ got4)
      (omega arith) (omega arith)
      (holding_more g.slots slots slots2 lo n.free shared n.drops (Drop n.free 0 ∷ []) got (Some p.array ∷ []) up1 (omega arith) h1 h2)
      (grown_whole slots2 slots4 shared from hi (es.drops ++ os.drops) (got3 ++ got4) up2 (omega arith)
      (grown_more slots2 slots3 slots4 shared from from es.free hi es.drops os.drops got3 got4 (omega arith) up3 up4 grown3 grown4))))
      (grown4.same n.free (inl (omega arith)) (inl (omega arith)) ∙ array3)
      (up1, omega arith, inl (x, refl))
      (onward limit program held (got ++ (Some p.array ∷ [])) (got3 ++ got4) held2 held4
      (onward limit program held got (Some p.array ∷ []) held1 held2 eq1 refl)
      (onward limit program held2 got3 got4 held3 held4 eq3 eq4))))))))

  here : (b : Bool) (g : Frame) (held : List (Option ℕ)) (todo : Block) → Comes limit program b
      (spot g g.into (g.pc + 0) g.variables g.slots) held todo
      → Comes limit program b g held todo
  here b g held todo x =
      let e : g.pc + 0 ≡ g.pc = omega arith in
      subst (λ (q : ℕ). Comes limit program b (spot g g.into q g.variables g.slots) held todo) e x

  comes_at : (b : Bool) (g : Frame) (j pc pc' : ℕ) (variables : List Value) (slots : Slots) (held : List (Option ℕ)) (todo : Block)
      → pc ≡ pc'
      → Comes limit program b (spot g j pc variables slots) held todo → Comes limit program b (spot g j pc' variables slots) held todo
  comes_at b g j pc pc' variables slots held todo e x = subst (λ (q : ℕ). Comes limit program b (spot g j q variables slots) held todo) e x

  mutual
    pub value_goes : (t : Term) → Handled program.adts t → (lo : ℕ) → GoesBy limit program lo t (lower program.adts lo t)
    value_goes (Node t o ts) h lo = node_either limit program lo t o ts h (λ x b. operands_go ts x lo b) (λ x. each_goes ts x lo)
    value_goes (Lazy k l r) h lo =
        let a = lower program.adts lo l in
        lazy_goes limit program k lo l r (may_hold program.adts r) a (lower program.adts (suc a.free) r) refl (term_up program.adts lo l)
        (term_up program.adts (suc a.free) r) (drops_within program.adts (suc a.free) r) (λ e. no_drops program.adts (suc a.free) r e)
        (value_goes l h.0 lo) (value_goes r h.1 (suc a.free))
    value_goes (Update o k t w ts us) h lo =
        let a = lower_all program.adts lo ts in
        update_goes limit program lo o k t w ts us a (lower_all program.adts (suc a.free) us) h.0
        (λ v. handled_fill_all program.adts v us h.2)
        (terms_up program.adts lo ts)
        (terms_up program.adts (suc a.free) us) (operands_go ts h.1 lo true) (operands_go us h.2 (suc a.free) true)
    value_goes (Fill t l is rest) h lo =
        let n = lower program.adts lo l in
        let shared = suc n.free in
        let from = max (items_end program.adts shared is) (rest_end program.adts shared rest) in
        fill_goes lo t l is rest n (lower_items program.adts t n.free shared from is)
        (lower_rest program.adts t n.free (named program.adts is) shared (lower_items program.adts t n.free shared from is).free rest) from
        (known_length lo l h.0 (λ x. value_goes l x lo)) (term_up program.adts lo l)
        (let a = end_up program.adts shared is in omega arith) (items_up program.adts t n.free shared from is)
        (rest_up program.adts t n.free (named program.adts is) shared (lower_items program.adts t n.free shared from is).free rest)
        (items_go is h.1 t n.free shared from from (omega arith) (omega arith))
        (rest_go rest h.2 t n.free is shared from (lower_items program.adts t n.free shared from is).free
        (let b = items_up program.adts t n.free shared from is in omega arith) (omega arith))
    value_goes _ h lo = absurd h

    pub each_goes : (ts : Terms) → AllHandled program.adts ts → (lo : ℕ) → EachBy limit program lo ts
    each_goes NoTerms h lo = tt
    each_goes (MoreTerms t ts) h lo = (value_goes t h.0 lo, each_goes ts h.1 (lower program.adts lo t).free)

    pub operands_go : (ts : Terms) → AllHandled program.adts ts → (lo : ℕ) (b : Bool) → AllBy limit program b lo ts
        (lower_all program.adts lo ts)
    operands_go NoTerms h lo b C c g held has room k =
        here b g held (C NoTerms) (k g.into g.variables g.slots [] [] held (holding_none g.slots lo) tt tt tt (sym (append-nil held)))
    operands_go (MoreTerms t ts) h lo b C c g held has room k =
        let x = lower program.adts lo t in
        let y = lower_all program.adts x.free ts in
        let up = term_up program.adts lo t in
        let ups = terms_up program.adts x.free ts in
        let n = length-append x.code y.code in
        value_goes t h.0 lo (λ u. C (MoreTerms u ts))
        (carry limit program (next program.adts) fill (next_all program.adts) fill_all C c (λ u. MoreTerms u ts)
        (λ m v. after (next_all program.adts m ts) (λ vs. Finished (v ∷ vs)) (MoreTerms (Evaluated v))) (λ m u. refl)
        (λ v u. ap (MoreTerms (fill v u)) (handled_fill_all program.adts v ts h.1)))
        g held (has_front g.code g.pc x.code y.code has) (room_front g.slots lo x.free y.free held up ups room)
        (λ j variables slots v got held1 h1 e1 b1 eq1.
        comes limit program (begun limit program b ts) (spot g j (g.pc + length x.code) variables slots) held1
        (C (MoreTerms (Evaluated v) ts))
        (operands_go ts h.1 x.free b (λ us. C (MoreTerms (Evaluated v) us))
        (carry limit program (next_all program.adts) fill_all (next_all program.adts) fill_all C c (MoreTerms (Evaluated v))
        (λ m vs. Finished (v ∷ vs))
        (λ m us. refl) (λ z us. refl))
        (spot g j (g.pc + length x.code) variables slots) held1 (has_back g.code g.pc x.code y.code has)
        (room_behind g.slots slots lo x.free y.free x.drops held got held1 up ups room h1 eq1)
        (λ j2 variables2 slots2 vs got2 held2 h2 hold2 bs2 fs2 eq2.
        comes_at b g j2 (g.pc + length (x.code ++ y.code)) (g.pc + length x.code + length y.code) variables2 slots2 held2
        (C (evaluated (v ∷ vs))) (omega arith)
        (k j2 variables2 slots2 (v ∷ vs) (got ++ got2) held2 (holding_more g.slots slots slots2 lo x.free y.free x.drops y.drops got got2
        up ups h1 h2)
        (h2.same x.value (inl b1.1) ∙ e1, hold2)
        ((b1.0, let q = b1.1 in omega (arith, q, ups)), between_wide x.free y.free lo y.free y.values up (omega arith) bs2) (b1.2, fs2)
        (onward limit program held got got2 held1 held2 eq1 eq2)))))

    pub items_go : (is : Items) → HandledItems program.adts is → (t : Ty) (a shared from lo : ℕ) → from ≤ lo → items_end program.adts
        shared is ≤ from
        → ItemsBy t a shared from lo is (lower_items program.adts t a shared lo is)
    items_go NoItems h t a shared from lo f m ns rest p C c g held hi has space l below array k =
        here_stands g held (C (fill_rest t p ns rest))
        (k g.into g.variables g.slots [] held (grown_none g.slots shared from lo space.shares) (sym (append-nil held)))
    items_go (MoreItems z e is) h t a shared from lo f m ns rest p C c g held hi has space l below array k =
        let b = may_hold program.adts e in
        let x = lower program.adts (if b then lo else shared) e in
        let lo' = if b then x.free else lo in
        let y = lower_items program.adts t a shared lo' is in
        let up = items_up program.adts t a shared lo' is in
        let up_own = either_up program.adts b lo shared e (term_up program.adts lo e) in
        let n = length-append x.code (Element t a z x.value ∷ y.code) in
        let has_more = has_back g.code g.pc x.code (Element t a z x.value ∷ y.code) has in
        let item = item_goes b t e z is ns rest p a shared from lo hi x refl (value_goes e h.0 (if b then lo else shared))
        (λ q. no_drops program.adts (if b then lo else shared) e q) (term_up program.adts (if b then lo else shared) e) (omega arith)
        (item_end b shared from (lower program.adts shared e).free (if b then lo else shared) x.free (λ q. item_free b lo shared e q)
        (omega arith))
        C c g held
        (has_front g.code g.pc x.code (Element t a z x.value ∷ y.code) has) has_more.0 space below array in
        going (item
        (λ j variables slots got held1 g1 eq1.
        let array1 : slot slots a ≡ Holds (Array (Some p)) = g1.same a (inl below)
        (inl (let q = space.low in let r = space.mid in omega arith)) ∙ array in
        items_go is h.1 t a shared from lo' (omega arith) (omega arith) ns rest p C c (spot g j (suc (g.pc + length x.code)) variables
        slots) held1 hi has_more.1
        (space_behind g.slots slots shared from lo lo' hi x.drops held got held1 up_own (omega arith) space g1 eq1) l below array1
        (λ j2 variables2 slots2 got2 held2 g2 eq2.
        pc_is limit program g j2 (g.pc + length (x.code ++ (Element t a z x.value ∷ y.code)))
        (suc (g.pc + length x.code) + length y.code) variables2 slots2 held2
        (C (fill_rest t p ns rest)) (omega arith)
        (k j2 variables2 slots2 (got ++ got2) held2
        (grown_more g.slots slots slots2 shared from lo lo' y.free x.drops y.drops got got2 f up_own up g1 g2)
        (onward limit program held got got2 held1 held2 eq1 eq2)))))

    pub rest_go : (rest : Terms) → HandledRest program.adts rest → (t : Ty) (a : ℕ) (is : Items) (shared from lo : ℕ) → from ≤ lo
        → rest_end program.adts shared rest ≤ from
        → RestBy t a is shared from lo rest (lower_rest program.adts t a (named program.adts is) shared lo rest)
    rest_go NoTerms h t a is shared from lo f m p C c g held hi has space l below array k =
        here_stands g held (C (Evaluated (Array (Some p))))
        (k g.into g.variables g.slots [] held (grown_none g.slots shared from lo space.shares) (sym (append-nil held)))
    rest_go (MoreTerms e es) h t a is shared from lo f m p C c g held hi has space l below array k =
        others_go (may_hold program.adts e) t e es a is shared from lo refl f m (λ at. value_goes e h at)
        (value_stands program.adts e h (suc lo)) p C c g held hi has space l below array k
