-- What evaluations leave in slots, one behind the other.
use Rattle.std.proofs.Common.{◌≡◌, ℕ, suc, ◌+◌, ◌<◌, ◌≤◌, List, [], ◌∷◌, ◌++◌, length, Option}
use Rattle.std.proofs.Common.{refl, sym, ap, subst, ◌∙◌, arith, inl, inr}
use Rattle.limbo_meaning.specs.Values.{Value, references, among}
use Rattle.core_code.specs.Slots.{Slot, Holds, Slots, slot, put, slot_names}
use Rattle.core_code.specs.Code.{Instr}
use Rattle.core_follows.specs.Drops.{Clean, Between, AllTouch, HasAt, Dropping, none, Holding}
use Rattle.core_follows.specs.Stands.{SlotsName}
use Rattle.core_follows.proofs.Slots.{put_same, put_other, put_long, names_between, clean_same, clean_within, name_none, name_more}
use Rattle.core_follows.proofs.Slots.{name_same, name_at, put_whole}
use Rattle.core_follows.proofs.Drops.{touch_more, touch_others, dropping_kept, dropping_more}

-- ---- code at places

pub has_front : (code : List Instr) (pc : ℕ) (is js : List Instr) → HasAt code pc (is ++ js) → HasAt code pc is
has_front code pc [] js h = tt
has_front code pc (i ∷ is) js h = (h.0, has_front code (suc pc) is js h.1)

pub has_back : (code : List Instr) (pc : ℕ) (is js : List Instr) → HasAt code pc (is ++ js) → HasAt code (pc + length is) js
has_back code pc [] js h = let e : pc ≡ pc + 0 = omega arith in subst (λ (q : ℕ). HasAt code q js) e h
has_back code pc (i ∷ is) js h =
    let e : suc pc + length is ≡ pc + suc (length is) = omega arith in
    subst (λ (q : ℕ). HasAt code q js) e (has_back code (suc pc) is js h.1)

pub has_more : (code : List Instr) (pc : ℕ) (is js : List Instr) → HasAt code pc is → HasAt code (pc + length is) js
    → HasAt code pc (is ++ js)
has_more code pc [] js h k = let e : pc + 0 ≡ pc = omega arith in subst (λ (q : ℕ). HasAt code q js) e k
has_more code pc (i ∷ is) js h k =
    let e : pc + suc (length is) ≡ suc pc + length is = omega arith in
    (h.0, has_more code (suc pc) is js h.1 (subst (λ (q : ℕ). HasAt code q js) e k))

-- ---- room for an evaluation

-- Its slots are there and name nothing, and all slots name what is held.
pub record Room (slots : Slots) (lo hi : ℕ) (held : List (Option ℕ)) : Type 0 where
  pub order : lo ≤ hi
  pub fits : hi ≤ length slots
  pub clean : Clean slots lo hi
  pub names : SlotsName slots held

pub room_front : (slots : Slots) (lo mid hi : ℕ) (held : List (Option ℕ)) → lo ≤ mid → mid ≤ hi → Room slots lo hi held
    → Room slots lo mid held
room_front slots lo mid hi held l m r = record {
  order = l;
  fits = let a = r.fits in omega arith;
  clean = clean_within slots lo hi lo mid (omega arith) m r.clean;
  names = r.names;
}

pub room_back : (slots : Slots) (lo mid hi : ℕ) (held : List (Option ℕ)) → lo ≤ mid → mid ≤ hi → Room slots lo hi held
    → Room slots mid hi held
room_back slots lo mid hi held l m r = record {
  order = m;
  fits = r.fits;
  clean = clean_within slots lo hi mid hi l (omega arith) r.clean;
  names = r.names;
}

pub room_behind : (before slots : Slots) (lo mid hi : ℕ) (ds : List Instr) (held got held' : List (Option ℕ)) → lo ≤ mid → mid ≤ hi
    → Room before lo hi held → Holding before slots lo mid ds got → held' ≡ held ++ got → Room slots mid hi held'
room_behind before slots lo mid hi ds held got held' l m r h e = record {
  order = m;
  fits = let a = r.fits in let b = h.long in omega arith;
  clean = clean_same before slots mid hi (λ s p q. h.same s (inr p)) (clean_within before lo hi mid hi l (omega arith) r.clean);
  names = subst (λ (x : List (Option ℕ)). SlotsName slots x) (sym e)
      (names_between before slots lo mid held got l (let a = r.fits in omega arith) h.long h.same
      (clean_within before lo hi lo mid (omega arith) m r.clean) h.names r.names);
}

-- ---- evaluations

pub holding_none : (slots : Slots) (lo : ℕ) → Holding slots slots lo lo [] []
holding_none slots lo = record {
  long = refl;
  same = λ s b. refl;
  whole = λ s w. w;
  dropping = none;
  within = tt;
  names = name_none slots lo;
}

pub holding_more : (one two three : Slots) (lo mid hi : ℕ) (ds es : List Instr) (held got : List (Option ℕ)) → lo ≤ mid → mid ≤ hi
    → Holding one two lo mid ds held → Holding two three mid hi es got → Holding one three lo hi (ds ++ es) (held ++ got)
holding_more one two three lo mid hi ds es held got l m h k = record {
  long = k.long ∙ h.long;
  same = λ s b. elim b [
    | inl x ↦ k.same s (inl (omega arith)) ∙ h.same s (inl x)
    | inr x ↦ k.same s (inr x) ∙ h.same s (inr (omega arith))
  ];
  whole = λ s w. k.whole s (h.whole s w);
  dropping = dropping_more three lo mid hi ds es held got h.within k.within
      (dropping_kept (Between lo mid) two three ds held h.within (λ s b. k.same s (inl b.1)) h.dropping) k.dropping;
  within = touch_more (Between lo hi) ds es
      (touch_others (Between lo mid) (Between lo hi) ds (λ s b. (b.0, let x = b.1 in omega (arith, x, m))) h.within)
      (touch_others (Between mid hi) (Between lo hi) es (λ s b. (let x = b.0 in omega (arith, x, l), b.1)) k.within);
  names = name_more three lo mid hi held got l m (name_same two three lo mid held (λ s p q. k.same s (inl q)) h.names) k.names;
}

-- ---- one value comes into its slot

-- How the references of a value in a slot are dropped.
pub record Owns (s : ℕ) (v : Value) (own : List Instr) (got : List (Option ℕ)) : Type 0 where
  pub dropping : (slots : Slots) → slot slots s ≡ Holds v → Dropping slots own got
  pub within : AllTouch (Between s (suc s)) own
  pub names : (n : ℕ) → among n (references v) ≡ among n got

pub holding_put : (slots : Slots) (s : ℕ) (v : Value) (own : List Instr) (got : List (Option ℕ)) → s < length slots → Owns s v own got
    → Holding slots (put slots s (Holds v)) s (suc s) own got
holding_put slots s v own got l o =
    let e = put_same slots s (Holds v) l in
    record {
      long = put_long slots s (Holds v);
      same = λ r b. put_other slots s r (Holds v) (λ f. absurd (elim b [ inl x ↦ omega (arith, x, f) | inr x ↦ omega (arith, x, f) ]));
      whole = put_whole slots s (Holds v) refl;
      dropping = o.dropping (put slots s (Holds v)) e;
      within = o.within;
      names = name_at (put slots s (Holds v)) s got (λ n. ap (λ (x : Slot). slot_names x n) e ∙ o.names n);
    }
