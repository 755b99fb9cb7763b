-- The drops at a statement's end go one by one.
use Rattle.std.proofs.Common.{◌≡◌, ℕ, ℤ, zero, suc, ◌+◌, ◌-◌, ◌<◌, ◌≤◌, true, List, [], ◌∷◌, ◌++◌, length, Option, Some}
use Rattle.std.proofs.Common.{None, refl, sym, ap, subst, ◌∙◌, arith, append_assoc, length-append, inl, inr, ⊎_elim}
use Rattle.std.proofs.lemmas.Bool.{cases_lt}
use Rattle.std.specs.Prelude.{slice_get}
use Rattle.process_model.specs.Process.{Went}
use Rattle.limbo_meaning.specs.Values.{Value, Num, Chars, Ref, Array, Parts, number_of, one, among}
use Rattle.system_model.specs.Prints.{Writing}
use Rattle.limbo_meaning.specs.Operations.{holds}
use Rattle.limbo_meaning.specs.Trees.{Block}
use Rattle.limbo_meaning.specs.Program.{Program}
use Rattle.limbo_meaning.specs.Process as source
use Rattle.limbo_meaning.specs.Process.{Shared}
use Rattle.limbo_meaning.specs.Holding.{ends_first}
use Rattle.limbo_meaning.proofs.Holding.{held_in_order}
use Rattle.core_code.specs.Slots.{Slot, Holds, Forms, Turns, Slots, Region, NoSlot, MoreSlots, NoRegion, MoreRegions, slot, put, empty}
use Rattle.core_code.specs.Slots.{value_of}
use Rattle.core_code.specs.Slots.{without, dropped, placed, next_of, chain_of, slot_names, region_names}
use Rattle.core_code.specs.Code.{Instr, Drop, Mirror, Take, Back}
use Rattle.core_code.specs.Machine as machine
use Rattle.core_code.specs.Machine.{Frame, at, memory_of, choice}
use Rattle.core_code.specs.Naming.{size}
use Rattle.core_code.specs.Statements.{code_of}
use Rattle.core_code.proofs.Names.{names_put, long_placed, placed_below, names_placed}
use Rattle.core_follows.specs.Drops as drops
use Rattle.core_follows.specs.Drops.{AllSpare, AllWhole, Clean, Between, Beside, Apart, AllTouch, AllMiss, HasAt, Dropping, none, enters}
use Rattle.core_follows.specs.Drops.{passes}
use Rattle.core_follows.specs.Drops.{takes, HasTurns, last, more}
use Rattle.core_follows.specs.Stands.{SlotsName, SlotsWhole, coded, sourced, beside, sstep, obeys, Stands, Going, going, obeying, goes}
use Rattle.core_follows.specs.Stands.{rests, place_at}
use Rattle.core_follows.proofs.Slots.{placed_above, put_whole, put_same, put_other, put_long, total, total_same, total_clean, clean_total}
use Rattle.core_follows.proofs.Slots.{slots_split, among_join}
use Rattle.core_follows.proofs.Drops.{after_drop, drop_whole, dropped_names, touch_back, dropping_kept, dropping_behind}
use Rattle.core_follows.proofs.Holding.{has_front, has_back}
use Rattle.core_follows.proofs.Nodes.{spot, pc_is}

-- ---- a region comes back

placed_whole : (slots : Slots) (a : ℕ) (g : Region) → AllWhole g → SlotsWhole slots → SlotsWhole (placed slots a g)
placed_whole slots a NoSlot h w d = w d
placed_whole slots a (MoreSlots x g) h w d = put_whole (placed slots (suc a) g) a x h.0 d (placed_whole slots (suc a) g h.1 w d)

pub placed_total : (n : ℕ) (slots : Slots) (a : ℕ) (g : Region) → a + size g ≤ length slots
    → total (placed slots a g) a (size g) n ≡ region_names g n
placed_total n slots a NoSlot l = refl
placed_total n slots a (MoreSlots x g) l =
    let back = placed slots (suc a) g in
    let m = long_placed slots (suc a) g in
    let e = ap (λ (s : Slot). slot_names s n) (put_same back a x (omega arith)) in
    let f = total_same n back (put back a x) (suc a) (size g) (λ s p q. put_other back a s x (λ z. absurd (omega (arith, z, p)))) in
    let h = placed_total n slots (suc a) g (omega arith) in
    omega arith

upto : (from words hi : ℕ) → 0 < words → ((s : ℕ) → from ≤ s → s < from + words → s < hi) → from + words ≤ hi
upto from zero hi l f = absurd (omega arith)
upto from (suc words) hi l f = let a = f (from + words) (omega arith) (omega arith) in omega arith

outside : (from words s : ℕ) → (from ≤ s → s < from + words → ⊥) → Beside from (from + words) s
outside from words s f = ⊎_elim
    (λ (l : s < from). inl l)
    (λ (l : from ≤ s). inr (⊎_elim (λ (m : s < from + words). absurd (f l m)) (λ (m : from + words ≤ s). m) (cases_lt s (from + words))))
    (cases_lt s from)

placed_other : (slots : Slots) (from words : ℕ) (y : Region) → size y ≡ words → (s : ℕ) → (from ≤ s → s < from + words → ⊥)
    → slot (placed slots from y) s ≡ slot slots s
placed_other slots from words y sz s f = elim (outside from words s f) [
  | inl l ↦ placed_below slots from s y l
  | inr l ↦ placed_above slots from y s (omega (arith, l, sz))
]

apart_outside : (lo hi c from words s : ℕ) → Between lo hi c → ((r : ℕ) → from ≤ r → r < from + words → Between lo hi r) → Beside lo hi s
    → Apart c from words s
apart_outside lo hi c from words s b f o = (
  (λ e. absurd (elim o [ inl r ↦ (let x = b.0 in omega (arith, r, e, x)) | inr r ↦ (let x = b.1 in omega (arith, r, e, x)) ])),
  λ p q. absurd (let x = f s p q in elim o [ inl r ↦ (let y = x.0 in omega (arith, r, y)) | inr r ↦ (let y = x.1 in omega (arith, r, y)) ]),
)

spare_back : (s : ℕ) (is js : List Instr) → AllSpare s (is ++ js) → AllSpare s js
spare_back s [] js h = h
spare_back s (i ∷ is) js h = spare_back s is js h.1

-- ---- numbers in slots

abbrev pub slot_number : Slots → ℕ → ℤ
slot_number slots s = number_of (value_of (slot slots s))

without_number : (k : ℕ) (v : Value) → number_of (without k v) ≡ number_of v
without_number k (Num z) = refl
without_number k (Chars s) = refl
without_number zero (Ref r) = refl
without_number (suc k) (Ref r) = refl
without_number zero (Array p) = refl
without_number (suc k) (Array p) = refl
without_number k (Parts vs) = refl

dropped_number : (k : ℕ) (x : Slot) → number_of (value_of (dropped k x)) ≡ number_of (value_of x)
dropped_number k (Holds v) = without_number k v
dropped_number k (Forms vs) = refl
dropped_number k (Turns i rs) = refl

drop_number : (slots : Slots) (s k r : ℕ) → slot_number (put slots s (dropped k (slot slots s))) r ≡ slot_number slots r
drop_number slots s k r = ⊎_elim
    (λ (f : slot (put slots s (dropped k (slot slots s))) r ≡ slot slots r). ap (λ (y : Slot). number_of (value_of y)) f)
    (λ (f : (r ≡ s) × (slot (put slots s (dropped k (slot slots s))) r ≡ dropped k (slot slots r))).
    ap (λ (y : Slot). number_of (value_of y)) f.1 ∙ dropped_number k (slot slots r))
    (after_drop slots s k r)

module _ (limit : ℕ) (program : Program) (g : Frame) (todo : Block) (ends : ends_first todo ≡ true) where
  abbrev here : (pc : ℕ) → Slots → Frame
  here pc slots = spot g g.into pc g.variables slots

  -- One reference less is held: the step of the program.
  lets_go : (pc : ℕ) (slots : Slots) (r : Option ℕ) (rest : List (Option ℕ)) (w : Shared) (n : ℕ) (below : List source.Frame)
      → sstep limit program w (sourced n (beside (here pc slots) (r ∷ rest) todo) below)
      ≡ Went w (sourced n (beside (here pc slots) rest todo) below)
  lets_go pc slots r rest w n below =
      held_in_order.first limit program w (sourced n (beside (here pc slots) (r ∷ rest) todo) below) r rest ends refl

  -- An instruction behind which one is held less.
  one_less : (pc pc' : ℕ) (slots slots' : Slots) (r : Option ℕ) (rest : List (Option ℕ)) (i : Instr) → slice_get g.code pc ≡ Some i
      → SlotsName slots (r ∷ rest)
      → ((w : Shared) (n : ℕ) (below : List Frame) (p : Option Writing) → obeys limit program w (coded n (here pc slots) below p) i
      ≡ Went w (coded n (at (here pc slots) pc' g.variables slots') below None))
      → Stands limit program (here pc' slots') rest todo → Going limit program (here pc slots) (r ∷ rest) todo
  one_less pc pc' slots slots' r rest i e names does s =
      obeying i names e (λ w. goes (memory_of w (here pc slots)) pc' slots' rest todo (does w) (λ n below. lets_go pc slots r rest w n
      below) s)

  -- Behind drops: other slots are as they were, and so is the number in each slot into which nothing was brought back.
  abbrev pub Done : (lo hi pc : ℕ) → List Instr → Slots → List (Option ℕ) → Type 0
  Done lo hi pc ds before later =
      (slots : Slots) → length slots ≡ length before → ((s : ℕ) → Beside lo hi s → slot slots s ≡ slot before s) → SlotsName slots later
      → SlotsWhole slots → ((s : ℕ) → AllSpare s ds → slot_number slots s ≡ slot_number before s) → Stands limit program (here pc slots) later todo

  pub drops_go : (fuel lo hi pc : ℕ) (slots : Slots) (ds : List Instr) (held later : List (Option ℕ)) → length held ≤ fuel
      → SlotsWhole slots → Dropping slots ds held → AllTouch (Between lo hi) ds → hi ≤ length slots → HasAt g.code pc ds → SlotsName slots (held ++ later)
      → Done lo hi (pc + length ds) ds slots later → Stands limit program (here pc slots) (held ++ later) todo
  drops_go fuel lo hi pc slots ds held later l wh none t m has names k =
      pc_is limit program g g.into (pc + 0) pc g.variables slots later todo (omega arith) (k slots refl (λ s b. refl) names wh (λ s z. refl))
  drops_go zero lo hi pc slots ds held later l wh (drops.one s j r e miss d) t m has names k = absurd (omega arith)
  drops_go (suc fuel) lo hi pc slots ds held later l wh (drops.one {is = is} {held = rest} s j r e miss d) t m has names k =
      let x = dropped j (slot slots s) in
      let slots1 = put slots s x in
      let in_slots : s < length slots = let b = t.0.1 in omega arith in
      going (one_less pc (suc pc) slots slots1 r (rest ++ later) (Drop s j) has.0 names (λ w n below p. refl)
      (drops_go fuel lo hi (suc pc) slots1 is rest later (omega arith) (λ d. drop_whole slots s j d (wh d)) (dropping_behind slots s j is rest miss d) t.1
      (let y = put_long slots s x in omega arith) has.1
      (λ n. let a = names_put n slots s x in_slots in let b = dropped_names n j (slot slots s) in let c = names n in
      let f = ap (one n) e in omega arith)
      (λ slots2 long same names2 whole2 numbers. pc_is limit program g g.into (pc + suc (length is)) (suc pc + length is) g.variables slots2
      later todo (omega arith)
      (k slots2 (long ∙ put_long slots s x)
      (λ r b. same r b ∙ put_other slots s r x (λ q. absurd (let y = t.0 in elim b [
        | inl z ↦ omega (arith, z, q, y.0)
        | inr z ↦ omega
            (arith, z, q, y.1)
      ])))
      names2 whole2 (λ r z. numbers r z.1 ∙ drop_number slots s j r)))))
  drops_go zero lo hi pc slots ds held later l wh (enters d n e x) t m has names k = absurd (omega arith)
  drops_go (suc fuel) lo hi pc slots ds held later l wh (enters {is = is} {held = rest} d n e x) t m has names k =
      going (one_less pc (suc pc + 0) slots slots None (rest ++ later) (Mirror d n) has.0 names
      (λ w q below p. ap (λ (y : Slot). machine.goes_to w (coded q (here pc slots) below p) (suc pc + choice (holds (value_of y)) n 0)
      slots) e)
      (pc_is limit program g g.into (suc pc) (suc pc + 0) g.variables slots (rest ++ later) todo (omega arith)
      (drops_go fuel lo hi (suc pc) slots is rest later (omega arith) wh x t.1 m has.1 (λ o. let q = names o in omega arith)
      (λ slots2 long same names2 whole2 numbers. pc_is limit program g g.into (pc + suc (length is)) (suc pc + length is) g.variables slots2
      later todo (omega arith)
      (k slots2 long same names2 whole2 (λ s z. numbers s z.1))))))
  drops_go zero lo hi pc slots ds held later l wh (passes d n skipped is e f ln x) t m has names k = absurd (omega arith)
  drops_go (suc fuel) lo hi pc slots ds held later l wh (passes {rest = body} {held = rest} d n skipped is e f ln x) t m has names k =
      let h = has_back g.code (suc pc) skipped is (subst (HasAt g.code (suc pc)) f has.1) in
      let u = touch_back (Between lo hi) skipped is (subst (AllTouch (Between lo hi)) f t.1) in
      let a : length body ≡ length skipped + length is = ap length f ∙ length-append skipped is in
      let z : suc pc + length skipped ≡ suc pc + n = omega arith in
      going (one_less pc (suc pc + n) slots slots None (rest ++ later) (Mirror d n) has.0 names
      (λ w q below p. ap (λ (y : Slot). machine.goes_to w (coded q (here pc slots) below p) (suc pc + choice (holds (value_of y)) n 0)
      slots) e)
      (pc_is limit program g g.into (suc pc + length skipped) (suc pc + n) g.variables slots (rest ++ later) todo z
      (drops_go fuel lo hi (suc pc + length skipped) slots is rest later (omega arith) wh x u m h (λ o. let q = names o in omega arith)
      (λ slots2 long same names2 whole2 numbers. pc_is limit program g g.into (pc + suc (length body)) (suc pc + length skipped + length is)
      g.variables slots2 later todo (omega arith)
      (k slots2 long same names2 whole2 (λ s z. numbers s (spare_back s skipped is (subst (AllSpare s) f z.1))))))))
  drops_go zero lo hi pc slots ds held later l wh (takes c from words n i es is NoRegion turned rest e lt wl cl te tj last x f ln h) t m has
      names k =
      absurd (let z = ap length h in omega arith)
  drops_go (suc fuel) lo hi pc slots ds held later l wh (takes {rest = body} c from words n i es is NoRegion turned rest e lt wl cl te tj last
      x f ln h) t m has names k =
      let slots1 = put slots c empty in
      let c_in : c < length slots = let b = t.0.0 in omega (arith, b.1, m) in
      let h1 = has_back g.code (suc pc) es (Back (suc (length es)) ∷ is) (subst (HasAt g.code (suc pc)) f has.1) in
      let u = touch_back (Between lo hi) es (Back (suc (length es)) ∷ is) (subst (AllTouch (Between lo hi)) f t.1) in
      let a : length body ≡ length es + suc (length is) = ap length f ∙ length-append es (Back (suc (length es)) ∷ is) in
      let z : suc (suc pc + length es) ≡ suc pc + n = omega arith in
      let names1 : SlotsName slots (None ∷ (rest ++ later)) = subst (λ (hs : List (Option ℕ)). SlotsName slots (hs ++ later)) h names in
      subst (λ (hs : List (Option ℕ)). Stands limit program (here pc slots) (hs ++ later) todo) (sym h)
      (going (one_less pc (suc pc + n) slots slots1 None (rest ++ later) (Take c from words n) has.0 names1
      (λ w q below p. ap (λ (y : Slot). machine.takes limit (code_of program) w (coded q (here pc slots) below p) c from n (next_of y)
      (chain_of y)) e)
      (pc_is limit program g g.into (suc (suc pc + length es)) (suc pc + n) g.variables slots1 (rest ++ later) todo z
      (drops_go fuel lo hi (suc (suc pc + length es)) slots1 is rest later (let y = ap length h in omega arith)
      (λ d. put_whole slots c empty refl d (wh d))
      (dropping_kept (Apart c from words) slots slots1 is rest tj (λ s b. put_other slots c s empty b.0) x) u.1
      (let y = put_long slots c empty in omega arith) h1.1
      (λ o. let p = names_put o slots c empty c_in in let q = names1 o in let r = ap (λ (y : Slot). slot_names y o) e in omega arith)
      (λ slots2 long same names2 whole2 numbers.
      pc_is limit program g g.into (pc + suc (length body)) (suc (suc pc + length es) + length is) g.variables slots2 later todo
      (omega arith)
      (k slots2 (long ∙ put_long slots c empty)
      (λ s b. same s b ∙ put_other slots c s empty (λ q. absurd
      (let y = t.0.0 in elim b [ inl r ↦ omega (arith, r, q, y.0) | inr r ↦ omega (arith, r, q, y.1) ])))
      names2 whole2
      (λ s z. numbers s (spare_back s es (Back (suc (length es)) ∷ is) (subst (AllSpare s) f z.1)).1
      ∙ ap (λ (y : Slot). number_of (value_of y)) (put_other slots c s empty z.0.0))))))))
  drops_go zero lo hi pc slots ds held later l wh (takes c from words n i es is (MoreRegions y rs) turned rest e lt wl cl te tj
      (more hg turned' sz fs nm aw ts) x f ln h) t m has names k =
      absurd (let z = ap length h in omega arith)
  drops_go (suc fuel) lo hi pc slots ds held later l wh (takes {rest = body} c from words n i es is (MoreRegions y rs) turned rest e lt wl cl
      te tj (more hg turned' sz fs nm aw ts) x f ln h) t m has names k =
      let back = placed slots from y in
      let slots1 = put back c (Turns i rs) in
      let c_in : c < length slots = let b = t.0.0 in omega (arith, b.1, m) in
      let top : from + words ≤ hi = upto from words hi wl (λ s p q. (t.0.2 s p q).1) in
      let long_back = long_placed slots from y in
      let long1 : length slots1 ≡ length slots = put_long back c (Turns i rs) ∙ long_back in
      let has_es = subst (HasAt g.code (suc pc)) f has.1 in
      let h1 = has_back g.code (suc pc) es (Back (suc (length es)) ∷ is) has_es in
      let more_held : List (Option ℕ) = (turned' ++ rest) ++ later in
      let eq_held : held ++ later ≡ None ∷ (hg ++ more_held) =
      ap (λ (hs : List (Option ℕ)). hs ++ later) h
      ∙ ap (λ (hs : List (Option ℕ)). None ∷ (hs ++ later)) (append_assoc hg turned' rest)
      ∙ ap (λ (hs : List (Option ℕ)). None ∷ hs) (append_assoc hg (turned' ++ rest) later) in
      let names0 : SlotsName slots (None ∷ (hg ++ more_held)) = subst (SlotsName slots) eq_held names in
      let clean_back : (o : ℕ) → total slots from words o ≡ 0 = λ o. clean_total o slots from words cl in
      let chain_there = placed_below slots from c y lt in
      let names1 : SlotsName slots1 (hg ++ more_held) = λ o.
      let p = names_placed o slots from y (omega arith) in
      let q = names_put o back c (Turns i rs) (omega arith) in
      let r = ap (λ (s : Slot). slot_names s o) (chain_there ∙ e) in
      let v = clean_back o in
      let v' = ap (λ (j : ℕ). total slots from j o) sz in
      let u = names0 o in omega arith in
      let inner : Dropping slots1 es hg = dropping_kept (Between from (from + words)) back slots1 es hg te
      (λ s b. put_other back c s (Turns i rs) (λ q. absurd (let r = b.0 in omega (arith, q, r, lt)))) (fs slots (omega arith)) in
      let region1 : (o : ℕ) → total slots1 from words o ≡ among o hg = λ o.
      let p = total_same o back slots1 from words (λ s q r. put_other back c s (Turns i rs) (λ v. absurd (omega (arith, v, q, lt)))) in
      let q = placed_total o slots from y (omega arith) in
      let r = ap (λ (j : ℕ). total back from j o) sz in
      let v = nm o in omega arith in
      let one_fewer = λ (hs : List (Option ℕ)). Stands limit program (here pc slots) hs todo in
      subst one_fewer (sym eq_held)
      (going (one_less pc (suc pc) slots slots1 None (hg ++ more_held) (Take c from words n) has.0 names0
      (λ w q below p. ap (λ (z : Slot). machine.takes limit (code_of program) w (coded q (here pc slots) below p) c from n (next_of z)
      (chain_of z)) e)
      (drops_go fuel from (from + words) (suc pc) slots1 es hg more_held
      (let z = ap length h in let v = length-append (hg ++ turned') rest in let u = length-append hg turned' in omega arith)
      (λ d. put_whole back c (Turns i rs) refl d (placed_whole slots from y aw wh d)) inner te
      (omega arith)
      (has_front g.code (suc pc) es (Back (suc (length es)) ∷ is) has_es) names1
      (λ slots2 long same names2 whole2 numbers.
      let pcb : ℕ = suc pc + length es in
      let to_take : pcb - suc (length es) ≡ pc = omega arith in
      let long2 : length slots2 ≡ length slots = long ∙ long1 in
      let same2 : (s : ℕ) → Apart c from words s → slot slots2 s ≡ slot slots s = λ s b. same s (outside from words s b.1)
      ∙ put_other back c s (Turns i rs) b.0 ∙ placed_other slots from words y sz s b.1 in
      let clean2 : Clean slots2 from (from + words) = total_clean slots2 from words (λ o.
      let p = slots_split o slots1 from (from + words) (omega arith) (omega arith) in
      let q = slots_split o slots2 from (from + words) (omega arith) (omega arith) in
      let r = total_same o slots1 slots2 0 from (λ s u v. same s (inl (omega arith))) in
      let u = total_same o slots1 slots2 (from + words) (length slots1 - (from + words)) (λ s a v. same s (inr a)) in
      let v : from + words - from ≡ words = omega arith in
      let v1 = ap (λ (j : ℕ). total slots1 from j o) v in
      let v2 = ap (λ (j : ℕ). total slots2 from j o) v in
      let v3 = ap (λ (j : ℕ). total slots2 (from + words) (j - (from + words)) o) long in
      let a1 = names1 o in
      let a2 = names2 o in
      let a3 = among_join o hg more_held in
      let a4 = region1 o in omega arith) (λ d p q. whole2 d) in
      going (obeying (Back (suc (length es))) names2 h1.0 (λ w. rests (pcb - suc (length es)) slots2 (λ q below p. refl)
      (subst (λ (q : ℕ). 1 < place_at (slice_get g.code q)) (sym to_take) (subst (λ (o : Option Instr). 1 < place_at o) (sym has.0)
      (omega arith)))
      (pc_is limit program g g.into pc (pcb - suc (length es)) g.variables slots2 more_held todo (sym to_take)
      (drops_go fuel lo hi pc slots2 (Take c from words n ∷ body) (turned' ++ rest) later
      (let z = ap length h in let v = length-append (hg ++ turned') rest in let u = length-append hg turned' in let z' = length-append
      turned' rest in omega arith) whole2
      (takes c from words n i es is rs turned' rest
      (same c (inl lt) ∙ put_same back c (Turns i rs) (omega arith)) lt wl clean2 te tj ts
      (dropping_kept (Apart c from words) slots slots2 is rest tj same2 x) f ln refl)
      t (omega arith) has names2
      (λ slots3 long3 same3 names3 whole3 numbers3. k slots3 (long3 ∙ long2)
      (λ s b. same3 s b ∙ same2 s (apart_outside lo hi c from words s t.0.0 (λ r p q. t.0.2 r p q) b)) names3 whole3
      (λ s z. numbers3 s z ∙ ap (λ (y : Slot). number_of (value_of y)) (same2 s z.0)))))))))))
