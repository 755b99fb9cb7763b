-- Initialisers: a new array, its elements, and the element of the others, turn by turn.
use Rattle.std.proofs.Common.{◌≡◌, ℕ, ℤ, zero, suc, pos, ◌+◌, ◌-◌, ◌<◌, ◌≤◌, Bool, true, false, ◌||◌, List, [], ◌∷◌, ◌++◌, length, Option}
use Rattle.std.proofs.Common.{Some, None, Ok, Err, refl, sym, ap, subst, ◌∙◌, arith, append-nil, append_assoc, length-append, inl, inr}
use Rattle.std.proofs.Common.{⊎_elim}
use Rattle.std.proofs.lemmas.Bool.{cases_eq, cases_lt}
use Rattle.std.specs.Prelude.{slice_get, replicate, if◌then◌else◌}
use Rattle.std.specs.List.{range_with_len}
use Rattle.std.specs.Ordering.{int_eq}
use Rattle.inf_text.specs.Steps.{◌>>=◌}
use Rattle.system_model.specs.Prints.{Writing}
use Rattle.limbo_types.specs.Types as ty
use Rattle.limbo_types.specs.Types.{Ty}
use Rattle.limbo_typed.specs.declared.operation.Operation.TheVariants as operation
use Rattle.limbo_meaning.specs.Values.{Value, Array, Part, part_of, number_of, zero_of, references, among}
use Rattle.limbo_meaning.specs.Memory.{Memory}
use Rattle.limbo_meaning.specs.Exceptions.{Raising}
use Rattle.limbo_meaning.specs.Operations.{length_for, new_array, new_elements}
use Rattle.limbo_meaning.specs.Places.{written}
use Rattle.limbo_meaning.specs.Trees.{Term, Evaluated, Fill, Turning, Repeating, Block, Terms, Items, NoItems}
use Rattle.limbo_meaning.specs.Trees.{MoreItems, Operate}
use Rattle.limbo_meaning.specs.Evaluation as evaluation
use Rattle.limbo_meaning.specs.Evaluation.{Progress, Stepped, Raises, unless_raised, next, fill, performed, note, may_hold, fill_made}
use Rattle.limbo_meaning.specs.Evaluation.{element_at, names_index, left_of, others_of, leaves, fills}
use Rattle.limbo_meaning.specs.Program.{Program}
use Rattle.limbo_meaning.specs.Process.{Shared}
use Rattle.core_code.specs.Slots.{Slot, Holds, Turns, Slots, Region, Regions, NoRegion, MoreRegions, empty, slot, put}
use Rattle.core_code.specs.Slots.{value_of, chain_of, next_of, index_of, region, cleared, placed, chained, slot_names, region_names}
use Rattle.core_code.specs.Slots.{regions_name, slots_name, operands_of}
use Rattle.core_code.specs.Code.{Instr, Give, Element, Next, Other, Keep, Take, Drop, Back}
use Rattle.core_code.specs.Machine as machine
use Rattle.core_code.specs.Machine.{Frame, at, memory_of, first_left, is_named}
use Rattle.core_code.specs.Naming.{size}
use Rattle.core_code.specs.Terms.{Lowered, named}
use Rattle.core_code.specs.Statements.{code_of}
use Rattle.limbo_layout.specs.Adts.{Def}
use Rattle.core_code.proofs.Names.{names_put, long_cleared, cleared_below, names_cleared, names_chained}
use Rattle.core_follows.specs.Drops as drops
use Rattle.core_follows.specs.Drops.{IsWhole, AllWhole, Clean, Name, Between, Beside, Apart, AllTouch, HasAt, Dropping, none, takes}
use Rattle.core_follows.specs.Drops.{HasTurns, last, more}
use Rattle.core_follows.specs.Drops.{Holding}
use Rattle.core_follows.specs.Stands as stands
use Rattle.core_follows.specs.Stands.{SlotsName, coded, sourced, beside, obeys, Stands, Going, going, obeying, goes, rests, raises}
use Rattle.core_follows.specs.Stands.{place_at}
use Rattle.core_follows.proofs.Slots.{region_size, placed_region, put_whole, put_same, put_other, put_long, total, total_same}
use Rattle.core_follows.proofs.Slots.{total_split, total_clean, clean_same}
use Rattle.core_follows.proofs.Slots.{slots_total, name_at, clean_within, name_none, name_more, name_same, name_clean, among_join}
use Rattle.core_follows.proofs.Drops.{touch_more, touch_others, dropping_kept, dropping_more}
use Rattle.core_follows.proofs.Holding.{has_front, has_back, Room, room_behind, holding_put}
use Rattle.core_follows.proofs.Contexts.{Carries, carry}
use Rattle.core_follows.proofs.Nodes.{spot, pc_is, store_goes, gives_always}
use Rattle.core_follows.proofs.Given.{owns_row}
use Rattle.core_follows.proofs.Terms.{GoesBy}

-- ---- room for elements

-- Slots that elements share which hold nothing, and those behind that are free.
pub record Space (slots : Slots) (shared from lo hi : ℕ) (held : List (Option ℕ)) : Type 0 where
  pub low : shared ≤ from
  pub mid : from ≤ lo
  pub order : lo ≤ hi
  pub fits : hi ≤ length slots
  pub shares : Clean slots shared from
  pub clean : Clean slots lo hi
  pub names : SlotsName slots held

-- What elements left behind those before them: of the shared slots nothing.
pub record Grown (before slots : Slots) (shared from lo hi : ℕ) (ds : List Instr) (got : List (Option ℕ)) : Type 0 where
  pub long : length slots ≡ length before
  pub same : (s : ℕ) → Beside shared from s → Beside lo hi s → slot slots s ≡ slot before s
  pub whole : (s : ℕ) → IsWhole (slot before s) → IsWhole (slot slots s)
  pub shares : Clean slots shared from
  pub dropping : Dropping slots ds got
  pub within : AllTouch (Between lo hi) ds
  pub names : Name slots lo hi got

pub grown_none : (slots : Slots) (shared from lo : ℕ) → Clean slots shared from → Grown slots slots shared from lo lo [] []
grown_none slots shared from lo c = record {
  long = refl;
  same = λ s b d. refl;
  whole = λ s w. w;
  shares = c;
  dropping = none;
  within = tt;
  names = name_none slots lo;
}

pub grown_more : (one two three : Slots) (shared from lo mid hi : ℕ) (ds es : List Instr) (held got : List (Option ℕ)) → from ≤ lo
    → lo ≤ mid
    → mid ≤ hi → Grown one two shared from lo mid ds held → Grown two three shared from mid hi es got
    → Grown one three shared from lo hi (ds ++ es) (held ++ got)
grown_more one two three shared from lo mid hi ds es held got f l m h k = record {
  long = k.long ∙ h.long;
  same = λ s b d. elim d [
    | inl x ↦ k.same s b (inl (omega arith)) ∙ h.same s b (inl x)
    | inr x ↦ k.same s b (inr x) ∙ h.same s b (inr (omega arith))
  ];
  whole = λ s w. k.whole s (h.whole s w);
  shares = k.shares;
  dropping = dropping_more three lo mid hi ds es held got h.within k.within
      (dropping_kept (Between lo mid) two three ds held h.within
      (λ s b. k.same s (inr (let x = b.0 in omega (arith, x, f))) (inl b.1)) h.dropping) k.dropping;
  within = touch_more (Between lo hi) ds es
      (touch_others (Between lo mid) (Between lo hi) ds (λ s b. (b.0, let x = b.1 in omega (arith, x, m))) h.within)
      (touch_others (Between mid hi) (Between lo hi) es (λ s b. (let x = b.0 in omega (arith, x, l), b.1)) k.within);
  names = name_more three lo mid hi held got l m
      (name_same two three lo mid held (λ s p q. k.same s (inr (omega arith)) (inl q)) h.names) k.names;
}

-- An element that holds something has slots of its own.
pub grown_own : (one two : Slots) (shared from lo hi : ℕ) (ds : List Instr) (got : List (Option ℕ)) → from ≤ lo → Clean one shared from
    → Holding one two lo hi ds got → Grown one two shared from lo hi ds got
grown_own one two shared from lo hi ds got f c h = record {
  long = h.long;
  same = λ s b d. h.same s d;
  whole = h.whole;
  shares = clean_same one two shared from (λ s p q. h.same s (inl (omega arith))) c;
  dropping = h.dropping;
  within = h.within;
  names = h.names;
}

-- One that holds nothing leaves the shared ones clean.
pub grown_shared : (one two : Slots) (shared from hi lo : ℕ) → shared ≤ hi → hi ≤ from → from ≤ lo → Clean one shared from
    → Holding one two shared hi [] [] → Grown one two shared from lo lo [] []
grown_shared one two shared from hi lo l m f c h = record {
  long = h.long;
  same = λ s b d. h.same s (elim b [ inl x ↦ inl x | inr x ↦ inr (omega arith) ]);
  whole = h.whole;
  shares = λ s p q. ⊎_elim
      (λ (x : s < hi). let e : shared + (hi - shared) ≡ hi = omega arith in
      subst (Clean two shared) e (total_clean two shared (hi - shared) h.names
      (λ r y z. h.whole r (c r y (omega arith)).1)) s p x)
      (λ (x : hi ≤ s). clean_same one two hi from (λ r y z. h.same r (inr y)) (clean_within one shared from hi from l (omega arith) c) s x q)
      (cases_lt s hi);
  dropping = none;
  within = tt;
  names = name_none two lo;
}

total_upto : (n : ℕ) (slots : Slots) (a b c : ℕ) → a ≤ b → b ≤ c → total slots a (c - a) n ≡ total slots a (b - a) n + total slots b
    (c - b) n
total_upto n slots a b c l m =
    let e : c - a ≡ (b - a) + (c - b) = omega arith in
    let f : a + (b - a) ≡ b = omega arith in
    ap (λ (k : ℕ). total slots a k n) e ∙ total_split n slots a (b - a) (c - b)
    ∙ ap (λ (k : ℕ). total slots a (b - a) n + total slots k (c - b) n) f

total_zero : (n : ℕ) (slots : Slots) (a b : ℕ) → a ≤ b → Clean slots a b → total slots a (b - a) n ≡ 0
total_zero n slots a b l c = name_clean slots a b l c n

same_between : (n : ℕ) (one two : Slots) (a b : ℕ) → ((s : ℕ) → a ≤ s → s < b → slot two s ≡ slot one s)
    → total two a (b - a) n ≡ total one a (b - a) n
same_between n one two a b h = total_same n one two a (b - a) (λ s p q. h s p (omega arith))

all_parts : (n : ℕ) (slots : Slots) (shared from lo mid end : ℕ) → shared ≤ from → from ≤ lo → lo ≤ mid → mid ≤ end
    → total slots 0 (end - 0) n ≡ total slots 0 (shared - 0) n + (total slots shared (from - shared) n
    + (total slots from (lo - from) n + (total slots lo (mid - lo) n + total slots mid (end - mid) n)))
all_parts n slots shared from lo mid end l1 l2 l3 l4 =
    let a1 = total_upto n slots 0 shared end (omega arith) (omega arith) in
    let a2 = total_upto n slots shared from end l1 (omega arith) in
    let a3 = total_upto n slots from lo end l2 (omega arith) in
    let a4 = total_upto n slots lo mid end l3 l4 in
    omega arith

grown_names : (one two : Slots) (shared from lo mid : ℕ) (ds : List Instr) (held got : List (Option ℕ)) → shared ≤ from → from ≤ lo
    → lo ≤ mid
    → mid ≤ length one → Clean one shared from → Clean one lo mid → SlotsName one held → Grown one two shared from lo mid ds got
    → SlotsName two (held ++ got)
grown_names one two shared from lo mid ds held got l1 l2 l3 l4 c1 c2 names g n =
    let end : ℕ = length one in
    let z : (slots : Slots) → length slots ≡ end → slots_name slots n ≡ total slots 0 (end - 0) n = λ slots e.
    let q : length slots ≡ end - 0 = omega (arith, e) in slots_total n slots ∙ ap (λ (k : ℕ). total slots 0 k n) q in
    let x = all_parts n one shared from lo mid end l1 l2 l3 l4 in
    let y = all_parts n two shared from lo mid end l1 l2 l3 l4 in
    let s1 = same_between n one two 0 shared (λ s p q. g.same s (inl q) (inl (omega arith))) in
    let s2 = same_between n one two from lo (λ s p q. g.same s (inr p) (inl q)) in
    let s3 = same_between n one two mid end (λ s p q. g.same s (inr (omega arith)) (inr p)) in
    let z1 = total_zero n one shared from l1 c1 in
    let z2 = total_zero n two shared from l1 g.shares in
    let z3 = total_zero n one lo mid l3 c2 in
    let nm = g.names n in
    let h = names n in
    let j = among_join n held got in
    let w1 = z one refl in
    let w2 = z two g.long in
    omega arith

-- Behind them there is room again.
pub space_behind : (one two : Slots) (shared from lo mid hi : ℕ) (ds : List Instr) (held got held' : List (Option ℕ)) → lo ≤ mid → mid ≤ hi
    → Space one shared from lo hi held → Grown one two shared from lo mid ds got → held' ≡ held ++ got → Space two shared from mid hi held'
space_behind one two shared from lo mid hi ds held got held' l m s g e = record {
  low = s.low;
  mid = let x = s.mid in omega arith;
  order = m;
  fits = let x = s.fits in let y = g.long in omega arith;
  shares = g.shares;
  clean = clean_same one two mid hi (λ r p q. g.same r (inr (let x = s.mid in omega arith)) (inr p))
      (clean_within one lo hi mid hi l (omega arith) s.clean);
  names = subst (SlotsName two) (sym e) (grown_names one two shared from lo mid ds held got s.low s.mid l (let x = s.fits in omega arith)
      s.shares
      (clean_within one lo hi lo mid (omega arith) m s.clean) s.names g);
}

-- All of them together, from the shared slots on.
pub grown_whole : (one two : Slots) (shared from hi : ℕ) (ds : List Instr) (got : List (Option ℕ)) → shared ≤ from → from ≤ hi
    → Grown one two shared from from hi ds got → Holding one two shared hi ds got
grown_whole one two shared from hi ds got l m g = record {
  long = g.long;
  same = λ s b. elim b [ inl x ↦ g.same s (inl x) (inl (omega arith)) | inr x ↦ g.same s (inr (omega arith)) (inr x) ];
  whole = g.whole;
  dropping = g.dropping;
  within = touch_others (Between from hi) (Between shared hi) ds (λ s b. (let x = b.0 in omega (arith, x, l), b.1)) g.within;
  names = name_more two shared from hi [] got l m (name_clean two shared from l g.shares) g.names;
}

-- ---- indices that no element names

module _ (defs : List Def) where
  index_either : (b c d : Bool) → c ≡ d → (if b then true else c) ≡ (b || d)
  index_either true c d e = refl
  index_either false c d e = e

  index_same : (is : Items) (n : ℕ) → is_named (named defs is) n ≡ names_index is n
  index_same NoItems n = refl
  index_same (MoreItems z t is) n = index_either (int_eq (pos n) z) (is_named (named defs is) n) (names_index is n) (index_same is n)

  -- What is next of so many indices from one on, and what is left of them.
  pub data NextIs (is : Items) (i l : ℕ) : Option ℕ → List ℕ → Type 0 where
    no_more : NextIs is i l None []
    one_more : (k : ℕ) → i ≤ k → k < i + l → NextIs is i l (Some k) (k ∷ left_of is (range_with_len (suc k) (i + l - suc k)))

  further_on : (is : Items) (i l : ℕ) (o : Option ℕ) (ns : List ℕ) → NextIs is (i + 1) l o ns → NextIs is i (suc l) o ns
  further_on is i l o ns no_more = no_more
  further_on is i l o ns (one_more k p q) =
      let e : i + suc l - suc k ≡ i + 1 + l - suc k = omega arith in
      subst (λ (m : ℕ). NextIs is i (suc l) (Some k) (k ∷ left_of is (range_with_len (suc k) m))) e (one_more k (omega arith) (omega arith))

  next_either : (is : Items) (i l : ℕ) (b c : Bool) → b ≡ c
      → NextIs is (i + 1) l (first_left (named defs is) (range_with_len (i + 1) l)) (left_of is (range_with_len (i + 1) l))
      → NextIs is i (suc l) (if b then first_left (named defs is) (range_with_len (i + 1) l) else Some i)
      (if c then left_of is (range_with_len (i + 1) l) else i ∷ left_of is (range_with_len (i + 1) l))
  next_either is i l true true e h = further_on is i l _ _ h
  next_either is i l true false e h = absurd cc
  next_either is i l false true e h = absurd cc
  next_either is i l false false e h =
      let f : i + suc l - suc i ≡ l = omega arith in
      let g : suc i ≡ i + 1 = omega arith in
      subst (λ (m : ℕ). NextIs is i (suc l) (Some i) (i ∷ left_of is (range_with_len m l))) g
      (subst (λ (m : ℕ). NextIs is i (suc l) (Some i) (i ∷ left_of is (range_with_len (suc i) m))) f
      (one_more i (omega arith) (omega arith)))

  pub next_is : (is : Items) (l i : ℕ) → NextIs is i l (first_left (named defs is) (range_with_len i l)) (left_of is (range_with_len i l))
  next_is is zero i = no_more
  next_is is (suc l) i = next_either is i l (is_named (named defs is) i) (names_index is i) (index_same is i) (next_is is l (i + 1))

-- ---- chains

cleared_above : (slots : Slots) (a k s : ℕ) → a + k ≤ s → slot (cleared slots a k) s ≡ slot slots s
cleared_above slots a zero s l = refl
cleared_above slots a (suc k) s l =
    put_other (cleared slots (suc a) k) a s empty (λ e. absurd (omega (arith, e, l))) ∙ cleared_above slots (suc a) k s (omega arith)

cleared_in : (slots : Slots) (a k s : ℕ) → a + k ≤ length slots → a ≤ s → s < a + k → slot (cleared slots a k) s ≡ empty
cleared_in slots a zero s l p q = absurd (omega arith)
cleared_in slots a (suc k) s l p q =
    let back = cleared slots (suc a) k in
    let long = long_cleared slots (suc a) k in
    ⊎_elim
    (λ (e : s ≡ a). subst (λ (s : ℕ). slot (put back a empty) s ≡ empty) (sym e) (put_same back a empty (omega arith)))
    (λ (e : s ≡ a → ⊥). put_other back a s empty e ∙ cleared_in slots (suc a) k s (omega arith) (omega (arith, e)) (omega arith))
    (cases_eq s a)

cleared_whole : (slots : Slots) (a k s : ℕ) → IsWhole (slot slots s) → IsWhole (slot (cleared slots a k) s)
cleared_whole slots a zero s w = w
cleared_whole slots a (suc k) s w = put_whole (cleared slots (suc a) k) a empty refl s (cleared_whole slots (suc a) k s w)

region_whole : (slots : Slots) (a k : ℕ) → ((s : ℕ) → a ≤ s → s < a + k → IsWhole (slot slots s)) → AllWhole (region slots a k)
region_whole slots a zero h = tt
region_whole slots a (suc k) h = (
  h a (omega arith) (omega arith),
  region_whole slots (suc a) k (λ s p q. h s (omega arith) (omega arith)),
)

cleared_clean : (slots : Slots) (a k : ℕ) → a + k ≤ length slots → Clean (cleared slots a k) a (a + k)
cleared_clean slots a k l s p q =
    let e = cleared_in slots a k s l p q in
    ((λ n. ap (λ (x : Slot). slot_names x n) e), ap operands_of e)

turns_add : (from words : ℕ) (es : List Instr) (rs : Regions) (turned now : List (Option ℕ)) (g : Region) → HasTurns from words es rs turned
    → size g ≡ words → ((slots : Slots) → from + words ≤ length slots → Dropping (placed slots from g) es now)
    → ((n : ℕ) → region_names g n ≡ among n now) → AllWhole g → HasTurns from words es (chained rs g) (turned ++ (now ++ None ∷ []))
turns_add from words es rs turned now g last e f h w = more now (None ∷ []) e f h w last
turns_add from words es rs turned now g (more {g = g'} {rs = rs'} held later e' f' h' w' ts) e f h w =
    subst (λ (x : List (Option ℕ)). HasTurns from words es (MoreRegions g' (chained rs' g)) (None ∷ x))
    (sym (append_assoc held later (now ++ None ∷ [])))
    (more held (later ++ (now ++ None ∷ [])) e' f' h' w' (turns_add from words es rs' later now g ts e f h w))

turns_names : (n from words : ℕ) (es : List Instr) (rs : Regions) (turned : List (Option ℕ)) → HasTurns from words es rs turned
    → regions_name rs n ≡ among n turned
turns_names n from words es rs turned last = refl
turns_names n from words es rs turned (more {rs = rs'} held later e f h w ts) =
    let a = turns_names n from words es rs' later ts in
    let b = h n in
    let c = among_join n held later in
    omega arith

pub no_more_held : (slots : Slots) (ds : List Instr) (got : List (Option ℕ)) → ds ≡ [] → Dropping slots ds got → got ≡ []
no_more_held slots ds got e none = refl
no_more_held slots ds got e (drops.one s k r x m d) = absurd cc
no_more_held slots ds got e (drops.enters d n x y) = absurd cc
no_more_held slots ds got e (drops.passes d n skipped is x f l y) = absurd cc
no_more_held slots ds got e (takes c from words n i es is rs turned later x l wl cl te tj ts y f ln h) = absurd cc

module _ (limit : ℕ) (program : Program) where
  -- ---- the new array

  array_made : (m : Memory) (t : Ty) (z : ℤ) (is : Items) (rest : Terms) (X : Progress Value Term → Progress Value Term → Type 0)
      → ((m' : Memory) (p : Part) → X (Stepped m' (Some p.array ∷ []) (Evaluated (Array (Some p))))
      (Stepped m' (Some p.array ∷ []) (fill_made t (Some p) is rest)))
      → ((text : List ℕ) → X (Raises text) (Raises text))
      → X (unless_raised (new_array program.adts m t z) (leaves program.adts m (ty.ArrayOf t) operation.NewArray))
      (unless_raised (new_array program.adts m t z) (λ r. Stepped r.memory (references r.value) (fill_made t (part_of r.value) is rest)))
  array_made m t z is rest X f g = by (length_for program.adts t z)
    where
      by : (r : Raising ℕ) →
          X (unless_raised (r >>= λ l. Ok (new_elements m (replicate l (zero_of program.adts t))))
          (leaves program.adts m (ty.ArrayOf t) operation.NewArray))
          (unless_raised (r >>= λ l. Ok (new_elements m (replicate l (zero_of program.adts t))))
          (λ r. Stepped r.memory (references r.value) (fill_made t (part_of r.value) is rest)))
      by (Ok l) = f _ _
      by (Err text) = g text

  pub array_goes : (C : Term → Block) → Carries limit program (next program.adts) fill C → (g : Frame) (held : List (Option ℕ)) (t : Ty)
      (v : Value)
      (is : Items) (rest : Terms) (into from : ℕ)
      → slice_get g.code g.pc ≡ Some (Give (ty.ArrayOf t) (Operate operation.NewArray) into (from ∷ [])) → Room g.slots into (suc into) held
      → slot g.slots from ≡ Holds v
      → ((variables : List Value) (p : Part) → let x = Array (Some p) in
      Holding g.slots (put g.slots into (Holds x)) into (suc into) (Drop into 0 ∷ []) (Some p.array ∷ [])
      → Stands limit program (spot g g.into (suc g.pc) variables (put g.slots into (Holds x))) (held ++ (Some p.array ∷ []))
      (C (fill_made t (Some p) is rest)))
      → Going limit program g held (C (Fill t (Evaluated v) is rest))
  array_goes C c g held t v is rest into from i room e k =
      obeying (Give (ty.ArrayOf t) (Operate operation.NewArray) into (from ∷ [])) room.names i
      (λ w. array_made (memory_of w g) t (number_of v) is rest
      (λ pm ps. performed program.adts (memory_of w g) (ty.ArrayOf t) (Operate operation.NewArray) (v ∷ []) ≡ pm
      → next program.adts (memory_of w g) (Fill t (Evaluated v) is rest) ≡ ps
      → stands.Next limit program w g held (C (Fill t (Evaluated v) is rest)) (Give (ty.ArrayOf t) (Operate operation.NewArray) into
      (from ∷ [])))
      (λ m p em es.
      let x = Array (Some p) in
      goes m (suc g.pc) (put g.slots into (Holds x)) (held ++ (Some p.array ∷ [])) (C (fill_made t (Some p) is rest))
      (λ n below q. ap (λ (y : Slot). machine.gives limit (code_of program) w (coded n g below q) into
      (performed program.adts (memory_of w g) (ty.ArrayOf t) (Operate operation.NewArray) (value_of y ∷ []))) e
      ∙ ap (λ (y : Progress Value Term). machine.gives limit (code_of program) w (coded n g below q) into y) em)
      (λ n below. c.steps w g held n below m (Some p.array ∷ []) (Fill t (Evaluated v) is rest) (fill_made t (Some p) is rest) es)
      (k m.variables p (holding_put g.slots into x (Drop into 0 ∷ []) (Some p.array ∷ []) (let a = room.fits in omega arith)
      (owns_row into x 1 refl))))
      (λ text em es. raises text
      (λ n below q. ap (λ (y : Slot). machine.gives limit (code_of program) w (coded n g below q) into
      (performed program.adts (memory_of w g) (ty.ArrayOf t) (Operate operation.NewArray) (value_of y ∷ []))) e
      ∙ ap (λ (y : Progress Value Term). machine.gives limit (code_of program) w (coded n g below q) into y) em)
      (λ n below. c.raises w g held n below text (Fill t (Evaluated v) is rest) es))
      refl refl)

  -- ---- an element is stored

  pub element_goes : (C : Term → Block) → Carries limit program (next program.adts) fill C → (g : Frame) (held : List (Option ℕ))
      (t : Ty) (p : Part)
      (z : ℤ) (v : Value) (u u' : Term) (a from : ℕ) → slice_get g.code g.pc ≡ Some (Element t a z from) → SlotsName g.slots held
      → slot g.slots a ≡ Holds (Array (Some p)) → slot g.slots from ≡ Holds v
      → ((m : Memory) → next program.adts m u ≡ evaluation.stores program.adts m (element_at t p z) v u')
      → ((variables : List Value) → Stands limit program (spot g g.into (suc g.pc) variables g.slots) held (C u'))
      → Going limit program g held (C u)
  element_goes C c g held t p z v u u' a from i names e f steps k =
      store_goes limit program C c g held u u' (Element t a z from) i names (λ w. written program.adts (memory_of w g) (element_at t p z) v)
      (λ w n below q.
      ap (λ (y : Slot). machine.part_or_none limit (code_of program) w (coded n g below q) (part_of (value_of y))
      (λ part. machine.stores limit (code_of program) w (coded n g below q) (element_at t part z) (value_of (slot g.slots from)))) e
      ∙ ap (λ (y : Slot). machine.stores limit (code_of program) w (coded n g below q) (element_at t p z) (value_of y)) f)
      (λ w. steps (memory_of w g)) k

  other_goes : (C : Term → Block) → Carries limit program (next program.adts) fill C → (g : Frame) (held : List (Option ℕ)) (t : Ty)
      (p : Part)
      (k : ℕ) (v : Value) (u u' : Term) (a loop from : ℕ) (rs : Regions) → slice_get g.code g.pc ≡ Some (Other t a loop from)
      → SlotsName g.slots held
      → slot g.slots a ≡ Holds (Array (Some p)) → slot g.slots loop ≡ Turns (suc k) rs → slot g.slots from ≡ Holds v
      → ((m : Memory) → next program.adts m u ≡ evaluation.stores program.adts m (element_at t p (pos k)) v u')
      → ((variables : List Value) → Stands limit program (spot g g.into (suc g.pc) variables g.slots) held (C u'))
      → Going limit program g held (C u)
  other_goes C c g held t p k v u u' a loop from rs i names e h f steps done =
      store_goes limit program C c g held u u' (Other t a loop from) i names (λ w. written program.adts (memory_of w g)
      (element_at t p (pos k)) v)
      (λ w n below q.
      ap (λ (y : Slot). machine.part_or_none limit (code_of program) w (coded n g below q) (part_of (value_of y))
      (λ part. machine.stores limit (code_of program) w (coded n g below q)
      (element_at t part (index_of (slot g.slots loop)))
      (value_of (slot g.slots from)))) e
      ∙ ap (λ (y : Slot). machine.stores limit (code_of program) w (coded n g below q) (element_at t p (index_of y))
      (value_of (slot g.slots from))) h
      ∙ ap (λ (y : Slot). machine.stores limit (code_of program) w (coded n g below q) (element_at t p (pos k)) (value_of y)) f)
      (λ w. steps (memory_of w g)) done

  -- ---- the next index, or no more

  next_does : (g : Frame) (p : Part) (a loop n i : ℕ) (is : Items) (rs : Regions) (o : Option ℕ)
      → slot g.slots a ≡ Holds (Array (Some p)) → slot g.slots loop ≡ Turns i rs
      → first_left (named program.adts is) (range_with_len i (p.long - i)) ≡ o
      → (w : Shared) (q : ℕ) (below : List Frame) (r : Option Writing)
      → obeys limit program w (coded q g below r) (Next a loop (named program.adts is) n)
      ≡ machine.nexts limit (code_of program) w (coded q g below r) loop n rs o
  next_does g p a loop n i is rs o e l f w q below r =
      ap (λ (y : Slot). machine.nexts limit (code_of program) w (coded q g below r) loop n (chain_of (slot g.slots loop))
      (first_left (named program.adts is) (range_with_len (next_of (slot g.slots loop))
      (machine.long_of (part_of (value_of y)) - next_of (slot g.slots loop))))) e
      ∙ ap (λ (y : Slot). machine.nexts limit (code_of program) w (coded q g below r) loop n (chain_of y)
      (first_left (named program.adts is) (range_with_len (next_of y) (p.long - next_of y)))) l
      ∙ ap (λ (y : Option ℕ). machine.nexts limit (code_of program) w (coded q g below r) loop n rs y) f

  -- The way back, which no step of the program stands for.
  back_rests : (g : Frame) (held : List (Option ℕ)) (todo : Block) (n pc : ℕ) (i : Instr) → slice_get g.code g.pc ≡ Some (Back n)
      → pc + n ≡ g.pc
      → slice_get g.code pc ≡ Some i → 1 < place_at (Some i) → SlotsName g.slots held
      → Stands limit program (spot g g.into pc g.variables g.slots) held todo → Going limit program g held todo
  back_rests g held todo n pc i at e there rank names s =
      let f : pc ≡ g.pc - n = omega arith in
      obeying (Back n) names at (λ w. rests (g.pc - n) g.slots (λ m below q. refl)
      (subst (λ (q : ℕ). 1 < place_at (slice_get g.code q)) f (subst (λ (o : Option Instr). 1 < place_at o) (sym there) rank))
      (pc_is limit program g g.into pc (g.pc - n) g.variables g.slots held todo f s))

  -- ---- the turns of an element that holds something

  abbrev pub turn_own : (t : Ty) (a lo : ℕ) → Lowered → List Instr
  turn_own t a lo x = x.code ++ (Other t a lo x.value ∷ Keep lo (suc lo) (x.free - suc lo) ∷ [])

  abbrev pub loop_own : (t : Ty) (a lo : ℕ) → List ℤ → Lowered → List Instr
  loop_own t a lo zs x = (Next a lo zs (suc (length (turn_own t a lo x))) ∷ turn_own t a lo x) ++
      (Back (suc (length (turn_own t a lo x))) ∷ [])

  abbrev pub drops_own : (lo : ℕ) → Lowered → List Instr
  drops_own lo x = (Take lo (suc lo) (x.free - suc lo) (suc (length x.drops)) ∷ x.drops) ++
      (Back (suc (length x.drops)) ∷ [])

  -- What is fixed in all turns: the array, the element, its code and where it goes.
  pub record Own (C : Term → Block) (g : Frame) (t : Ty) (e : Term) (x : Lowered) (a lo pc : ℕ) (is : Items) : Type 0 where
    pub carries : Carries limit program (next program.adts) fill C
    pub element : GoesBy limit program (suc lo) e x
    pub holds : may_hold program.adts e ≡ true
    pub below : a < lo
    pub value : Between (suc lo) x.free x.value
    pub touches : AllTouch (Between (suc lo) x.free) x.drops
    pub has : HasAt g.code pc (loop_own t a lo (named program.adts is) x)

  -- In front of the decision whether another turn follows.
  pub record Between_turns (before slots : Slots) (t : Ty) (p : Part) (x : Lowered) (a lo i : ℕ) (is : Items) (ns : List ℕ) (rs : Regions)
      (held start so_far : List (Option ℕ)) : Type 0 where
    pub long : length slots ≡ length before
    pub same : (s : ℕ) → Beside lo x.free s → slot slots s ≡ slot before s
    pub whole : (s : ℕ) → IsWhole (slot before s) → IsWhole (slot slots s)
    pub fits : x.free ≤ length slots
    pub array : slot slots a ≡ Holds (Array (Some p))
    pub loop : slot slots lo ≡ Turns i rs
    pub turns : HasTurns (suc lo) (x.free - suc lo) x.drops rs (so_far ++ None ∷ [])
    pub left : ns ≡ left_of is (range_with_len i (p.long - i))
    pub clean : Clean slots (suc lo) x.free
    pub names : SlotsName slots held
    pub is_held : held ≡ start ++ so_far

  -- the drops of what the turns held
  own_holding : (before slots : Slots) (t : Ty) (p : Part) (x : Lowered) (a lo i : ℕ) (is : Items) (ns : List ℕ) (rs : Regions)
      (held start so_far : List (Option ℕ)) → Between (suc lo) x.free x.value → AllTouch (Between (suc lo) x.free) x.drops
      → Between_turns before slots t p x a lo i is ns rs held start so_far
      → Holding before slots lo x.free (drops_own lo x) (so_far ++ None ∷ [])
  own_holding before slots t p x a lo i is ns rs held start so_far v te b =
      let from : ℕ = suc lo in
      let words : ℕ = x.free - from in
      let T = so_far ++ None ∷ [] in
      let v0 = v.0 in
      let v1 = v.1 in
      let fin : from + words ≡ x.free = omega arith in
      record {
        long = b.long;
        same = b.same;
        whole = b.whole;
        dropping = takes lo from words (suc (length x.drops)) i x.drops [] rs T [] b.loop (omega arith) (omega arith)
            (subst (Clean slots from) (sym fin) b.clean) (touch_others (Between from x.free) (Between from (from + words)) x.drops
            (λ s d. (d.0, let y = d.1 in omega (arith, y, fin))) te) tt b.turns none refl refl (sym (append-nil T));
        within = touch_more (Between lo x.free) (Take lo from words (suc (length x.drops)) ∷ x.drops)
            (Back (suc (length x.drops)) ∷ []) (
              ((omega arith, omega arith), omega arith, λ s p q. (omega arith, omega arith)),
              touch_others (Between from x.free) (Between lo x.free) x.drops (λ s d. (let y = d.0 in omega (arith, y), d.1)) te,
            ) (tt, tt);
        names = λ n.
            let e = total_upto n slots lo from x.free (omega arith) (omega arith) in
            let y = name_at slots lo T (λ m. ap (λ (s : Slot). slot_names s m) b.loop
            ∙ turns_names m from words x.drops rs T b.turns) n in
            let z = total_zero n slots from x.free (omega arith) b.clean in
            omega arith;
      }

  none_by : (is : Items) (i l : ℕ) (o : Option ℕ) (ms : List ℕ) → NextIs program.adts is i l o ms → [] ≡ ms → o ≡ None
  none_by is i l o ms no_more e = refl
  none_by is i l o ms (one_more k p q) e = absurd cc

  some_by : (is : Items) (i l k : ℕ) (ns : List ℕ) (o : Option ℕ) (ms : List ℕ) → NextIs program.adts is i l o ms → k ∷ ns ≡ ms
      → (o ≡ Some k) × (ns ≡ left_of is (range_with_len (suc k) (i + l - suc k))) × (i < i + l)
  some_by is i l k ns o ms no_more e = absurd cc
  some_by is i l k ns o ms (one_more k' p q) e =
      let f : k ≡ k' = cc in
      let h : ns ≡ left_of is (range_with_len (suc k') (i + l - suc k')) = cc in
      (ap Some (sym f), h ∙ ap (λ (z : ℕ). left_of is (range_with_len (suc z) (i + l - suc z))) (sym f), omega arith)

  -- what is left behind this index, in an array of this length
  left_behind : (is : Items) (i long k : ℕ) (ns : List ℕ) → k ∷ ns ≡ left_of is (range_with_len i (long - i))
      → (first_left (named program.adts is) (range_with_len i (long - i)) ≡ Some k) ×
      (ns ≡ left_of is (range_with_len (suc k) (long - suc k)))
  left_behind is i long k ns e =
      let x = some_by is i (long - i) k ns _ _ (next_is program.adts is (long - i) i) e in
      let y = x.2 in
      let z : i + (long - i) - suc k ≡ long - suc k = omega arith in
      (x.0, x.1 ∙ ap (λ (l : ℕ). left_of is (range_with_len (suc k) l)) z)

  -- A turn is over, and its slots are kept in the chain.
  kept_turn : (before slots slots2 : Slots) (t : Ty) (p : Part) (x : Lowered) (a lo i k : ℕ) (is : Items) (ns : List ℕ) (rs : Regions)
      (held start so_far got held2 : List (Option ℕ)) → a < lo → Between (suc lo) x.free x.value
      → Between_turns before slots t p x a lo i is (k ∷ ns) rs held start so_far
      → AllTouch (Between (suc lo) x.free) x.drops
      → Holding (put slots lo (Turns (suc k) rs)) slots2 (suc lo) x.free x.drops got → held2 ≡ (held ++ None ∷ []) ++ got
      → SlotsName slots2 held2
      → Between_turns before (put (cleared slots2 (suc lo) (x.free - suc lo)) lo
      (Turns (suc k) (chained rs (region slots2 (suc lo) (x.free - suc lo))))) t p x a lo (suc k) is ns
      (chained rs (region slots2 (suc lo) (x.free - suc lo))) held2 start ((so_far ++ None ∷ []) ++ got)
  kept_turn before slots slots2 t p x a lo i k is ns rs held start so_far got held2 la v b te h eq names2 =
      let from : ℕ = suc lo in
      let words : ℕ = x.free - from in
      let g = region slots2 from words in
      let z = Turns (suc k) rs in
      let one = put slots lo z in
      let wiped = cleared slots2 from words in
      let loop = Turns (suc k) (chained rs g) in
      let three = put wiped lo loop in
      let T = so_far ++ None ∷ [] in
      let v0 = v.0 in
      let v1 = v.1 in
      let fits = b.fits in
      let fin : from + words ≡ x.free = omega arith in
      let long1 : length one ≡ length slots = put_long slots lo z in
      let long2 : length slots2 ≡ length slots = h.long ∙ long1 in
      let long3 : length wiped ≡ length slots2 = long_cleared slots2 from words in
      let in_slots : from + words ≤ length slots2 = omega arith in
      let low : (s : ℕ) → s < lo → slot three s ≡ slot slots s = λ s l.
      put_other wiped lo s loop (λ e. absurd (omega (arith, e, l))) ∙ cleared_below slots2 from words s (omega arith)
      ∙ h.same s (inl (omega arith)) ∙ put_other slots lo s z (λ e. absurd (omega (arith, e, l))) in
      let loop2 : slot slots2 lo ≡ z = h.same lo (inl (omega arith)) ∙ put_same slots lo z (omega arith) in
      record {
        long = put_long wiped lo loop ∙ long3 ∙ long2 ∙ b.long;
        same = λ s d. elim d [
          | inl y ↦ low s y ∙ b.same s (inl y)
          | inr y ↦ put_other wiped lo s loop (λ e. absurd (omega (arith, e, y))) ∙ cleared_above slots2 from words s (omega arith)
              ∙ h.same s (inr y) ∙ put_other slots lo s z (λ e. absurd (omega (arith, e, y))) ∙ b.same s (inr y)
        ];
        whole = λ s w. put_whole wiped lo loop refl s
            (cleared_whole slots2 from words s (h.whole s (put_whole slots lo z refl s (b.whole s w))));
        fits = let q = put_long wiped lo loop in omega arith;
        array = low a la ∙ b.array;
        loop = put_same wiped lo loop (omega arith);
        turns = subst (HasTurns from words x.drops (chained rs g)) (sym (append_assoc T got (None ∷ [])))
            (turns_add from words x.drops rs T got g b.turns (region_size slots2 from words)
            (λ base l. dropping_kept (Between from x.free) slots2 (placed base from g) x.drops got te
            (λ s d. placed_region base slots2 from words s l d.0 (let y = d.1 in omega (arith, y, fin))) h.dropping)
            h.names
            (region_whole slots2 from words (λ s q r. h.whole s
            (put_whole slots lo z refl s (b.clean s q (omega (arith, r, fin))).1))));
        left = (left_behind is i p.long k ns b.left).1;
        clean = clean_same wiped three from x.free (λ s q r. put_other wiped lo s loop (λ e. absurd (omega (arith, e, q))))
            (subst (Clean wiped from) fin (cleared_clean slots2 from words in_slots));
        names = λ n.
            let c1 = names_cleared n slots2 from words in_slots in
            let c2 = names_put n wiped lo loop (omega arith) in
            let c3 = names_chained n rs g in
            let c4 = ap (λ (s : Slot). slot_names s n) (cleared_below slots2 from words lo (omega arith) ∙ loop2) in
            let c5 = names2 n in
            omega arith;
        is_held = eq ∙ ap (λ (y : List (Option ℕ)). (y ++ None ∷ []) ++ got) b.is_held
            ∙ ap (λ (y : List (Option ℕ)). y ++ got) (append_assoc start so_far (None ∷ [])) ∙ append_assoc start T got;
      }

  pub turns_own : (C : Term → Block) (g : Frame) (t : Ty) (e : Term) (x : Lowered) (a lo pc : ℕ) (is : Items) (p : Part)
      → Own C g t e x a lo pc is
      → (ns : List ℕ) (before slots : Slots) (i : ℕ) (rs : Regions) (held start so_far : List (Option ℕ)) (j : ℕ) (variables : List Value)
      → Between_turns before slots t p x a lo i is ns rs held start so_far
      → ((j : ℕ) (variables : List Value) (slots : Slots) (got held' : List (Option ℕ)) → Holding before slots lo x.free (drops_own lo x)
      got
      → held' ≡ start ++ got
      → Stands limit program (spot g j (pc + length (loop_own t a lo (named program.adts is) x)) variables slots) held'
      (C (Evaluated (Array (Some p)))))
      → Going limit program (spot g j pc variables slots) held (C (Turning t p ns e))
  turns_own C g t e x a lo pc is p own [] before slots i rs held start so_far j variables b k =
      let gN = spot g j pc variables slots in
      let turn = turn_own t a lo x in
      let n : ℕ = suc (length turn) in
      let o = none_by is i (p.long - i) _ _ (next_is program.adts is (p.long - i) i) b.left in
      let m = length-append turn (Back n ∷ []) in
      gives_always limit program C own.carries gN held (None ∷ []) (Turning t p [] e) (Evaluated (Array (Some p)))
      (Next a lo (named program.adts is) n)
      (suc pc + n) slots own.has.0 b.names (λ w q below r. next_does gN p a lo n i is rs None b.array b.loop o w q below r)
      (λ w. ap (λ (h : Bool). Stepped (memory_of w gN) (note h) (Evaluated (Array (Some p)))) own.holds)
      (pc_is limit program g j (pc + length (loop_own t a lo (named program.adts is) x)) (suc pc + n) variables slots
      (held ++ (None ∷ []))
      (C (Evaluated (Array (Some p)))) (omega arith)
      (k j variables slots (so_far ++ None ∷ []) (held ++ (None ∷ []))
      (own_holding before slots t p x a lo i is [] rs held start so_far own.value own.touches b)
      (ap (λ (y : List (Option ℕ)). y ++ (None ∷ [])) b.is_held ∙ append_assoc start so_far (None ∷ []))))
  turns_own C g t e x a lo pc is p own (z ∷ ns) before slots i rs held start so_far j variables b k =
      let gN = spot g j pc variables slots in
      let turn = turn_own t a lo x in
      let n : ℕ = suc (length turn) in
      let from : ℕ = suc lo in
      let words : ℕ = x.free - from in
      let o = (left_behind is i p.long z ns b.left).0 in
      let at_z = Turns (suc z) rs in
      let one = put slots lo at_z in
      let held1 : List (Option ℕ) = held ++ (None ∷ []) in
      let c = own.carries in
      let v0 = own.value.0 in
      let v1 = own.value.1 in
      let fits = b.fits in
      let la = own.below in
      let long1 = put_long slots lo at_z in
      let store = Other t a lo x.value in
      let keep = Keep lo from words in
      let has_turn = has_front g.code (suc pc) turn (Back n ∷ []) own.has.1 in
      let has_back_way = has_back g.code (suc pc) turn (Back n ∷ []) own.has.1 in
      let has_store = has_back g.code (suc pc) x.code (store ∷ keep ∷ []) has_turn in
      let m = length-append x.code (store ∷ keep ∷ []) in
      let room1 : Room one from x.free held1 = record {
        order = omega arith;
        fits = omega arith;
        clean = clean_same slots one from x.free (λ s q r. put_other slots lo s at_z (λ f. absurd (omega (arith, f, q)))) b.clean;
        names = λ q.
            let y1 = names_put q slots lo at_z (omega arith) in
            let y2 = ap (λ (s : Slot). slot_names s q) b.loop in
            let y3 = b.names q in
            let y4 = among_join q held (None ∷ []) in
            omega arith;
      } in
      gives_always limit program C c gN held (None ∷ []) (Turning t p (z ∷ ns) e) (Repeating t p z ns e e)
      (Next a lo (named program.adts is) n)
      (suc pc) one own.has.0 b.names (λ w q below r. next_does gN p a lo n i is rs (Some z) b.array b.loop o w q below r)
      (λ w. ap (λ (h : Bool). Stepped (memory_of w gN) (note h) (Repeating t p z ns e e)) own.holds)
      (going (own.element (λ y. C (Repeating t p z ns e y))
      (carry limit program (next program.adts) fill (next program.adts) fill C c (Repeating t p z ns e)
      (λ m' v. evaluation.stores program.adts m' (element_at t p (pos z)) v (Turning t p ns e)) (λ m' y. refl) (λ v y. refl))
      (spot g j (suc pc) variables one) held1 (has_front g.code (suc pc) x.code (store ∷ keep ∷ []) has_turn) room1
      (λ j2 variables2 slots2 v got held2 h ev bv eq.
      let pc2 : ℕ = suc pc + length x.code in
      let room2 = room_behind one slots2 from x.free x.free x.drops held1 got held2 (omega arith) (omega arith) room1 h eq in
      let names2 = room2.names in
      let array2 : slot slots2 a ≡ Holds (Array (Some p)) = h.same a (inl (omega arith)) ∙ put_other slots lo a at_z
      (λ f. absurd (omega (arith, f, la))) ∙ b.array in
      let loop2 : slot slots2 lo ≡ at_z = h.same lo (inl (omega arith)) ∙ put_same slots lo at_z (omega arith) in
      let rs3 = chained rs (region slots2 from words) in
      let three = put (cleared slots2 from words) lo (Turns (suc z) rs3) in
      let b3 = kept_turn before slots slots2 t p x a lo i z is ns rs held start so_far got held2 la own.value b own.touches h eq names2 in
      going (other_goes C c (spot g j2 pc2 variables2 slots2) held2 t p z v (Repeating t p z ns e (Evaluated v)) (Turning t p ns e) a lo
      x.value rs
      has_store.0 names2 array2 loop2 ev (λ m'. refl)
      (λ variables3.
      let g3 = spot g j2 (suc pc2) variables3 slots2 in
      let to_back : suc pc + length turn ≡ suc (suc pc2) = omega arith in
      let at_back = subst (λ (q : ℕ). slice_get g.code q ≡ Some (Back n)) to_back has_back_way.0 in
      going (obeying keep names2 has_store.1.0 (λ w. rests (suc (suc pc2)) three
      (λ q below r. ap (λ (s : Slot). machine.goes_on w (coded q g3 below r)
      (put (cleared slots2 from words) lo (Turns (next_of s) (chained (chain_of s) (region slots2 from words))))) loop2)
      (subst (λ (y : Option Instr). 0 < place_at y) (sym at_back) (omega arith))
      (going (back_rests (spot g j2 (suc (suc pc2)) variables3 three) held2 (C (Turning t p ns e)) n pc
      (Next a lo (named program.adts is) n) at_back
      (omega arith) own.has.0 (omega arith) b3.names
      (going (turns_own C g t e x a lo pc is p own ns before three (suc z) rs3 held2 start ((so_far ++ None ∷ []) ++ got) j2 variables3 b3
      k)))))))))))

  -- ---- the turns of an element that holds nothing

  abbrev pub turn_shared : (t : Ty) (a lo : ℕ) → Lowered → List Instr
  turn_shared t a lo x = x.code ++ (Other t a lo x.value ∷ [])

  abbrev pub loop_shared : (t : Ty) (a lo : ℕ) → List ℤ → Lowered → List Instr
  loop_shared t a lo zs x =
      (Next a lo zs (suc (length (turn_shared t a lo x))) ∷ turn_shared t a lo x) ++ (Back (suc (length (turn_shared t a lo x))) ∷ [])

  pub record Shares (C : Term → Block) (g : Frame) (t : Ty) (e : Term) (x : Lowered) (a shared from lo pc : ℕ) (is : Items) : Type 0 where
    pub carries : Carries limit program (next program.adts) fill C
    pub element : GoesBy limit program shared e x
    pub holds : may_hold program.adts e ≡ false
    pub nothing_dropped : x.drops ≡ []
    pub below : a < shared
    pub up : shared ≤ x.free
    pub end : x.free ≤ from
    pub mid : from ≤ lo
    pub has : HasAt g.code pc (loop_shared t a lo (named program.adts is) x)

  pub record Between_shared (before slots : Slots) (p : Part) (a shared from lo i : ℕ) (is : Items) (ns : List ℕ)
      (held : List (Option ℕ)) : Type 0 where
    pub long : length slots ≡ length before
    pub same : (s : ℕ) → Beside shared from s → Beside lo (suc lo) s → slot slots s ≡ slot before s
    pub whole : (s : ℕ) → IsWhole (slot before s) → IsWhole (slot slots s)
    pub fits : lo < length slots
    pub shares : Clean slots shared from
    pub array : slot slots a ≡ Holds (Array (Some p))
    pub loop : slot slots lo ≡ Turns i NoRegion
    pub left : ns ≡ left_of is (range_with_len i (p.long - i))
    pub names : SlotsName slots held

  pub put_names : (slots : Slots) (s : ℕ) (v : Slot) (held : List (Option ℕ)) → s < length slots
      → ((n : ℕ) → slot_names (slot slots s) n ≡ 0)
      → ((n : ℕ) → slot_names v n ≡ 0) → SlotsName slots held → SlotsName (put slots s v) held
  put_names slots s v held l z y names n =
      let a = names_put n slots s v l in let b = z n in let c = y n in let d = names n in omega arith

  pub turns_shared : (C : Term → Block) (g : Frame) (t : Ty) (e : Term) (x : Lowered) (a shared from lo pc : ℕ) (is : Items) (p : Part)
      → Shares C g t e x a shared from lo pc is → (ns : List ℕ) (before slots : Slots) (i : ℕ) (held : List (Option ℕ)) (j : ℕ)
      (variables : List Value)
      → Between_shared before slots p a shared from lo i is ns held
      → ((j : ℕ) (variables : List Value) (slots : Slots) → Grown before slots shared from lo (suc lo) [] []
      → Stands limit program (spot g j (pc + length (loop_shared t a lo (named program.adts is) x)) variables slots) held
      (C (Evaluated (Array (Some p)))))
      → Going limit program (spot g j pc variables slots) held (C (Turning t p ns e))
  turns_shared C g t e x a shared from lo pc is p own [] before slots i held j variables b k =
      let gN = spot g j pc variables slots in
      let turn = turn_shared t a lo x in
      let n : ℕ = suc (length turn) in
      let o = none_by is i (p.long - i) _ _ (next_is program.adts is (p.long - i) i) b.left in
      let m = length-append turn (Back n ∷ []) in
      gives_always limit program C own.carries gN held [] (Turning t p [] e) (Evaluated (Array (Some p)))
      (Next a lo (named program.adts is) n)
      (suc pc + n) slots own.has.0 b.names (λ w q below r. next_does gN p a lo n i is NoRegion None b.array b.loop o w q below r)
      (λ w. ap (λ (h : Bool). Stepped (memory_of w gN) (note h) (Evaluated (Array (Some p)))) own.holds)
      (subst (λ (hs : List (Option ℕ)). Stands limit program (spot g j (suc pc + n) variables slots) hs (C (Evaluated (Array (Some p)))))
      (sym (append-nil held))
      (pc_is limit program g j (pc + length (loop_shared t a lo (named program.adts is) x)) (suc pc + n) variables slots held
      (C (Evaluated (Array (Some p)))) (omega arith)
      (k j variables slots (record {
        long = b.long;
        same = b.same;
        whole = b.whole;
        shares = b.shares;
        dropping = none;
        within = tt;
        names = name_at slots lo [] (λ q. ap (λ (s : Slot). slot_names s q) b.loop);
      }))))
  turns_shared C g t e x a shared from lo pc is p own (z ∷ ns) before slots i held j variables b k =
      let gN = spot g j pc variables slots in
      let turn = turn_shared t a lo x in
      let n : ℕ = suc (length turn) in
      let both = left_behind is i p.long z ns b.left in
      let at_z = Turns (suc z) NoRegion in
      let one = put slots lo at_z in
      let c = own.carries in
      let fits = b.fits in
      let la = own.below in
      let up = own.up in
      let end = own.end in
      let mid = own.mid in
      let long1 = put_long slots lo at_z in
      let store = Other t a lo x.value in
      let has_turn = has_front g.code (suc pc) turn (Back n ∷ []) own.has.1 in
      let has_back_way = has_back g.code (suc pc) turn (Back n ∷ []) own.has.1 in
      let has_store = has_back g.code (suc pc) x.code (store ∷ []) has_turn in
      let m = length-append x.code (store ∷ []) in
      let shares1 : Clean one shared from = clean_same slots one shared from
      (λ s q r. put_other slots lo s at_z (λ f. absurd (omega (arith, f, r, mid)))) b.shares in
      let room1 : Room one shared x.free held = record {
        order = up;
        fits = omega arith;
        clean = clean_within one shared from shared x.free (omega arith) end shares1;
        names = put_names slots lo at_z held fits (λ q. ap (λ (s : Slot). slot_names s q) b.loop) (λ q. refl) b.names;
      } in
      gives_always limit program C c gN held [] (Turning t p (z ∷ ns) e) (Repeating t p z ns e e) (Next a lo (named program.adts is) n)
      (suc pc) one own.has.0 b.names (λ w q below r. next_does gN p a lo n i is NoRegion (Some z) b.array b.loop both.0 w q below r)
      (λ w. ap (λ (h : Bool). Stepped (memory_of w gN) (note h) (Repeating t p z ns e e)) own.holds)
      (subst (λ (hs : List (Option ℕ)). Stands limit program (spot g j (suc pc) variables one) hs (C (Repeating t p z ns e e)))
      (sym (append-nil held))
      (going (own.element (λ y. C (Repeating t p z ns e y))
      (carry limit program (next program.adts) fill (next program.adts) fill C c (Repeating t p z ns e)
      (λ m' v. evaluation.stores program.adts m' (element_at t p (pos z)) v (Turning t p ns e)) (λ m' y. refl) (λ v y. refl))
      (spot g j (suc pc) variables one) held (has_front g.code (suc pc) x.code (store ∷ []) has_turn) room1
      (λ j2 variables2 slots2 v got held2 h ev bv eq.
      let pc2 : ℕ = suc pc + length x.code in
      let got_none : got ≡ [] = no_more_held slots2 x.drops got own.nothing_dropped h.dropping in
      let same_held : held2 ≡ held = eq ∙ ap (λ (y : List (Option ℕ)). held ++ y) got_none ∙ append-nil held in
      let h' : Holding one slots2 shared x.free [] [] = subst (λ (y : List (Option ℕ)). Holding one slots2 shared x.free [] y) got_none
      (subst (λ (ds : List Instr). Holding one slots2 shared x.free ds got) own.nothing_dropped h) in
      let grown = grown_shared one slots2 shared from x.free lo up end mid shares1 h' in
      let room2 = room_behind one slots2 shared x.free x.free x.drops held got held2 up (omega arith) room1 h eq in
      let names2 = subst (SlotsName slots2) same_held room2.names in
      let array2 : slot slots2 a ≡ Holds (Array (Some p)) = h.same a (inl la) ∙ put_other slots lo a at_z
      (λ f. absurd (omega (arith, f, la, up, end, mid))) ∙ b.array in
      let loop2 : slot slots2 lo ≡ at_z = h.same lo (inr (omega arith)) ∙ put_same slots lo at_z fits in
      subst (λ (hs : List (Option ℕ)). Stands limit program (spot g j2 pc2 variables2 slots2) hs
      (C (Repeating t p z ns e (Evaluated v)))) (sym same_held)
      (going (other_goes C c (spot g j2 pc2 variables2 slots2) held t p z v (Repeating t p z ns e (Evaluated v)) (Turning t p ns e) a lo
      x.value NoRegion
      has_store.0 names2 array2 loop2 ev (λ m'. refl)
      (λ variables3.
      let to_back : suc pc + length turn ≡ suc pc2 = omega arith in
      going (back_rests (spot g j2 (suc pc2) variables3 slots2) held (C (Turning t p ns e)) n pc (Next a lo (named program.adts is) n)
      (subst (λ (q : ℕ). slice_get g.code q ≡ Some (Back n)) to_back has_back_way.0)
      (omega arith) own.has.0 (omega arith) names2
      (going (turns_shared C g t e x a shared from lo pc is p own ns before slots2 (suc z) held j2 variables3
      (record {
        long = h.long ∙ long1 ∙ b.long;
        same = λ s d f. h.same s (elim d [ inl y ↦ inl y | inr y ↦ inr (omega arith) ])
            ∙ put_other slots lo s at_z (λ q. absurd (elim f [ inl y ↦ omega (arith, y, q) | inr y ↦ omega (arith, y, q) ])) ∙ b.same s d f;
        whole = λ s w. h.whole s (put_whole slots lo at_z refl s (b.whole s w));
        fits = let q = h.long in omega arith;
        shares = grown.shares;
        array = array2;
        loop = loop2;
        left = both.1;
        names = names2;
      }) k))))))))))
