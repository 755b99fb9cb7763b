-- Which tags are taken, and the search for a free one.
use Rattle.std.proofs.Common.{◌≡◌, ℕ, zero, suc, ◌+◌, ◌-◌, ◌<◌, ◌≤◌, Bool, true, false, if◌then◌else◌, List, [], ◌∷◌, length, Some, refl, sym, ap, ◌∙◌, subst, arith, add-one, replicate, drop, get_or}
use Rattle.std.specs.Prelude.{slice_get, slice_set, ◌==◌, ◌||◌}
use Rattle.system_model.specs.World.{is_among, least_from}
use Rattle.sys_print.specs.Marks.{AreMarks}

-- ---- marks

-- A tag is marked, or waits among the rest, where it waits at all.
pub record Marked (waiting rest : List ℕ) (marks : List Bool) (tag : ℕ) : Type 0 where
  pub mark : Bool
  pub there : slice_get marks tag ≡ Some mark
  pub either : (mark || is_among tag rest) ≡ is_among tag waiting

-- So it is for each of the first so many tags.
pub record Marking (waiting rest : List ℕ) (marks : List Bool) : Type 0 where
  pub long : length marks ≡ length waiting
  pub each : (tag : ℕ) → tag < length waiting → Marked waiting rest marks tag

blank_at : (n k : ℕ) → k < n → slice_get (replicate n false) k ≡ Some false
blank_at zero k lt = absurd (omega (arith, lt))
blank_at (suc n) zero lt = refl
blank_at (suc n) (suc k) lt = blank_at n k (omega (arith, lt))

blank_long : (n : ℕ) → length (replicate n false) ≡ n
blank_long zero = refl
blank_long (suc n) = ap suc (blank_long n)

pub none_marked : (waiting : List ℕ) → Marking waiting waiting (replicate (length waiting) false)
none_marked waiting = record { long = blank_long (length waiting); each = λ tag lt. record { mark = false; there = blank_at (length waiting) tag lt; either = refl } }

set_same : (bs : List Bool) (k : ℕ) (b old : Bool) → slice_get bs k ≡ Some old → slice_get (slice_set bs k b) k ≡ Some b
set_same [] k b old e = absurd cc
set_same (x ∷ bs) zero b old e = refl
set_same (x ∷ bs) (suc k) b old e = set_same bs k b old e

set_other : (bs : List Bool) (k j : ℕ) (b : Bool) → (j ≡ k → ⊥) → slice_get (slice_set bs k b) j ≡ slice_get bs j
set_other [] k j b ne = refl
set_other (x ∷ bs) zero zero b ne = absurd (ne refl)
set_other (x ∷ bs) zero (suc j) b ne = refl
set_other (x ∷ bs) (suc k) zero b ne = refl
set_other (x ∷ bs) (suc k) (suc j) b ne = set_other bs k j b (λ e. ne (ap suc e))

set_long : (bs : List Bool) (k : ℕ) (b : Bool) → length (slice_set bs k b) ≡ length bs
set_long [] k b = refl
set_long (x ∷ bs) zero b = refl
set_long (x ∷ bs) (suc k) b = ap suc (set_long bs k b)

-- One more is marked.
pub marks_one : (waiting rest : List ℕ) (marks : List Bool) (m : ℕ) → Marking waiting (m ∷ rest) marks → Marking waiting rest (slice_set marks m true)
marks_one waiting rest marks m h = record { long = set_long marks m true ∙ h.long; each = each }
  where
    same : (tag : ℕ) → (b : Bool) → (tag == m) ≡ true → (b || ((tag == m) || is_among tag rest)) ≡ true
    same tag true e = refl
    same tag false e = ap (λ b. b || is_among tag rest) e

    other : (tag : ℕ) → (b : Bool) → (tag == m) ≡ false → (b || ((tag == m) || is_among tag rest)) ≡ (b || is_among tag rest)
    other tag b e = ap (λ c. b || (c || is_among tag rest)) e

    by : (tag : ℕ) → Marked waiting (m ∷ rest) marks tag → (c : Bool) → (tag == m) ≡ c → Marked waiting rest (slice_set marks m true) tag
    by tag k true e =
        let is : tag ≡ m = grind (arith, e) in
        record {
          mark = true;
          there = subst (λ j. slice_get (slice_set marks m true) j ≡ Some true) (sym is) (set_same marks m true k.mark (subst (λ j. slice_get marks j ≡ Some k.mark) is k.there));
          either = sym (same tag k.mark e) ∙ k.either;
        }
    by tag k false e = record {
      mark = k.mark;
      there = set_other marks m tag true (λ is. grind (arith, e, is)) ∙ k.there;
      either = sym (other tag k.mark e) ∙ k.either;
    }

    each : (tag : ℕ) → tag < length waiting → Marked waiting rest (slice_set marks m true) tag
    each tag lt = by tag (h.each tag lt) (tag == m) refl

pub all_marked : (waiting : List ℕ) (marks : List Bool) → Marking waiting [] marks → AreMarks waiting marks
all_marked waiting marks h = record { long = h.long; each = λ tag lt. by tag (h.each tag lt) }
  where
    none : (b : Bool) → (b || false) ≡ b
    none true = refl
    none false = refl

    by : (tag : ℕ) → Marked waiting [] marks tag → slice_get marks tag ≡ Some (is_among tag waiting)
    by tag k = k.there ∙ ap Some (sym (none k.mark) ∙ k.either)

-- ---- the search, one try on

pub least_on : (tries tag : ℕ) (ws : List ℕ) → tag < tries → is_among tag ws ≡ true → least_from (tries - (tag + 1)) (tag + 1) ws ≡ least_from (tries - tag) tag ws
least_on tries tag ws h found =
    let left = tries - (tag + 1) in
    let one : suc left ≡ tries - tag = omega arith in
    ap (λ n. least_from left n ws) (add-one tag)
    ∙ sym (ap (λ b. if b then least_from left (suc tag) ws else tag) found)
    ∙ ap (λ k. least_from k tag ws) one

pub least_here : (tries tag : ℕ) (ws : List ℕ) → tag < tries → is_among tag ws ≡ false → tag ≡ least_from (tries - tag) tag ws
least_here tries tag ws h free =
    let left = tries - (tag + 1) in
    let one : suc left ≡ tries - tag = omega arith in
    sym (ap (λ b. if b then least_from left (suc tag) ws else tag) free)
    ∙ ap (λ k. least_from k tag ws) one

-- ---- the waiting tags, one behind another

further : (ws : List ℕ) (i : ℕ) → i < length ws → drop i ws ≡ get_or ws i 0 ∷ drop (suc i) ws
further [] i lt = absurd (omega (arith, lt))
further (w ∷ ws) zero lt = refl
further (w ∷ ws) (suc i) lt = further ws i (omega (arith, lt))

pub next_tag : (ws : List ℕ) (i : ℕ) → i < length ws → drop i ws ≡ get_or ws i 0 ∷ drop (i + 1) ws
next_tag ws i lt = further ws i lt ∙ ap (λ k. get_or ws i 0 ∷ drop k ws) (sym (add-one i))

pub no_more : (ws : List ℕ) (i : ℕ) → length ws ≤ i → drop i ws ≡ []
no_more [] zero le = refl
no_more [] (suc i) le = refl
no_more (w ∷ ws) zero le = absurd (omega (arith, le))
no_more (w ∷ ws) (suc i) le = no_more ws i (omega (arith, le))
