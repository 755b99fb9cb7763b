-- The written form is the shortest spelling, and writing part by part gives it.
use Rattle.std.proofs.Common.{◌≡◌, ℕ, ◌+◌, ◌≤◌, ◌<◌, Bool, true, false, cond, leb}
use Rattle.std.proofs.Common.{List, [], ◌∷◌, ◌++◌, length, Result, Ok, Err, refl, inl, inr}
use Rattle.std.proofs.Common.{sym, ap, ◌∙◌, append_assoc, arith, ℤ, pos}
use Rattle.std.specs.Prelude.{◌&&◌}
use Rattle.std.specs.List.{flat_map}
use Rattle.std.proofs.lemmas.Bool.{ltb-true, lt-ltb, leb-true, le-leb}
use Rattle.std.proofs.lemmas.List.{append-nil, length-append}
use Rattle.byteorder.specs.Numbers.{length-bytes_high_first}
use Rattle.dis_file.specs.declared.object.Object.{Object}
use Rattle.dis_format.specs.Operands.{Form, one_byte, two_bytes, four_bytes, width, bits, mark, low_bits, fits_form}
use Rattle.dis_format.specs.Operands.{form_bytes, shortest}
use Rattle.dis_format.specs.Parts.{Part, byte, below, word, number, item, utf8, name, raw, IsItemStart, IsPart}
use Rattle.dis_format.specs.Parts.{AreParts, written, fits, object_parts}
use Rattle.dis_format.specs.Objects.{Spells, IsValid, written_form}
use Rattle.dis_format.specs.Reading.{object_at}
use Rattle.inf_text.specs.Steps.{◌>>=◌}
use Rattle.dis_format.specs.Writing.{put_all, write_of, AllFit, IsFirstMisfit}
use Rattle.dis_format.proofs.Rows.{both, and_so}
use Rattle.dis_format.proofs.Whole.{only}

-- a form that holds a number
record Fitting (n : ℤ) : Type 0 where
  holds : fits_form (shortest n) n ≡ true
  least : (form : Form) → fits_form form n ≡ true → width (shortest n) ≤ width form

wider : (form : Form) (n : ℤ) → fits_form form n ≡ true → fits_form four_bytes n ≡ true
wider one_byte n h = let lt = ltb-true _ _ h in lt-ltb _ _ (omega arith)
wider two_bytes n h = let lt = ltb-true _ _ h in lt-ltb _ _ (omega arith)
wider four_bytes n h = h

fitting : (form : Form) (n : ℤ) → fits_form form n ≡ true → Fitting n
fitting form n h = at (fits_form one_byte n) (fits_form two_bytes n) refl refl
  where
    at : (p q : Bool) → fits_form one_byte n ≡ p → fits_form two_bytes n ≡ q → Fitting n
    at true q ep eq = record { holds = rw ep ep; least = λ f h. rw ep (some f) }
      where
        some : (f : Form) → 1 ≤ width f
        some one_byte = omega arith
        some two_bytes = omega arith
        some four_bytes = omega arith
    at false true ep eq = record { holds = rw (ep, eq) eq; least = λ f h. rw (ep, eq) (two f h) }
      where
        two : (f : Form) → fits_form f n ≡ true → 2 ≤ width f
        two one_byte h = absurd (differ (sym ep ∙ h))
          where
            differ : false ≡ true → ⊥
            differ e = cc
        two two_bytes h = omega arith
        two four_bytes h = omega arith
    at false false ep eq = record { holds = rw (ep, eq) (wider form n h); least = λ f h. rw (ep, eq) (four f h) }
      where
        differ : false ≡ true → ⊥
        differ e = cc

        four : (f : Form) → fits_form f n ≡ true → 4 ≤ width f
        four one_byte h = absurd (differ (sym ep ∙ h))
        four two_bytes h = absurd (differ (sym eq ∙ h))
        four four_bytes h = omega arith

form_length : (form : Form) (n : ℤ) → length (form_bytes form n) ≡ width form
form_length form n = length-bytes_high_first (width form) (mark form + low_bits (bits form) n)

-- one part
record Writes (part : Part) (bytes : List ℕ) : Type 0 where
  spells : IsPart part (written part)
  least : length (written part) ≤ length bytes
  fitted : fits part ≡ true

-- an item's first byte and count
item_written : (kind count : ℕ) (bytes : List ℕ) → kind < 16 → IsItemStart kind count bytes → (z : Bool)
    → (leb 1 count && leb count 15) ≡ z → Writes (item kind count) bytes
item_written kind count bytes small (inl c) true is =
    record {
      spells = rw is (small, inl (c.0, c.1, refl));
      least = rw is (omega (arith, ap length c.2));
      fitted = and_so _ _ (lt-ltb _ _ small) (lt-ltb _ _ (omega (arith, c.1)));
    }
item_written kind count bytes small (inl c) false is =
    absurd (differ (sym is ∙ and_so _ _ (le-leb _ _ c.0) (le-leb _ _ c.1)))
  where
    differ : false ≡ true → ⊥
    differ e = cc
item_written kind count bytes small (inr c) true is =
    let b = both (leb 1 count) (leb count 15) is in
    record {
      spells = rw is (small, inl (leb-true _ _ b.0, leb-true _ _ b.1, refl));
      least = rw is (omega (arith, ap length c.1.1));
      fitted = and_so _ _ (lt-ltb _ _ small) (wider c.0 (pos count) c.1.0);
    }
item_written kind count bytes small (inr c) false is =
    let f = fitting c.0 (pos count) c.1.0 in
    record {
      spells = rw is (small, inr (shortest (pos count), (f.holds, refl)));
      least = rw is (omega (
        arith,
        f.least c.0 c.1.0,
        form_length (shortest (pos count)) (pos count),
        form_length c.0 (pos count),
        ap length c.1.1,
      ));
      fitted = and_so _ _ (lt-ltb _ _ small) (wider c.0 (pos count) c.1.0);
    }

item_writes : (kind count : ℕ) (bytes : List ℕ) → kind < 16 → IsItemStart kind count bytes
    → Writes (item kind count) bytes
item_writes kind count bytes small h = item_written kind count bytes small h (leb 1 count && leb count 15) refl

writes : (part : Part) (bytes : List ℕ) → IsPart part bytes → Writes part bytes
writes (byte b) bytes h = record { spells = refl; least = omega (arith, ap length h); fitted = refl }
writes (below limit b) bytes h =
    record { spells = (h.0, refl); least = omega (arith, ap length h.1); fitted = lt-ltb _ _ h.0 }
writes (word n) bytes h = record { spells = (h.0, refl); least = omega (arith, ap length h.1); fitted = refl }
writes (number range n) bytes h =
    let f = fitting h.0 n h.1.1 in
    record {
      spells = (shortest n, (h.1.0, f.holds, refl));
      least = omega (arith, f.least h.0 h.1.1, form_length (shortest n) n, form_length h.0 n, ap length h.1.2);
      fitted = and_so _ _ h.1.0 (wider h.0 n h.1.1);
    }
writes (item kind count) bytes h = item_writes kind count bytes h.0 h.1
writes (utf8 chars) bytes h = record { spells = (h.0, refl); least = omega (arith, ap length h.1); fitted = refl }
writes (name chars) bytes h = record { spells = (h.0, h.1, refl); least = omega (arith, ap length h.2); fitted = refl }
writes (raw own) bytes h = record { spells = refl; least = omega (arith, ap length h); fitted = refl }

-- ---- all parts

all_spelled : (parts : List Part) (bytes : List ℕ) → AreParts parts bytes → AreParts parts (flat_map written parts)
all_spelled [] bytes h = refl
all_spelled (part ∷ parts) bytes h =
    let w = writes part h.0 h.1.1.0 in
    (written part, (flat_map written parts, (w.spells, all_spelled parts h.1.0 h.1.1.1, refl)))

all_least : (parts : List Part) (bytes : List ℕ) → AreParts parts bytes → length (flat_map written parts) ≤ length bytes
all_least [] bytes h = omega arith
all_least (part ∷ parts) bytes h =
    let w = writes part h.0 h.1.1.0 in
    let later = all_least parts h.1.0 h.1.1.1 in
    omega (
      arith,
      w.least,
      later,
      length-append (written part) (flat_map written parts),
      length-append h.0 h.1.0,
      ap length h.1.1.2,
    )

all_fit : (parts : List Part) (bytes : List ℕ) → AreParts parts bytes → AllFit parts
all_fit [] bytes h = tt
all_fit (part ∷ parts) bytes h = ((writes part h.0 h.1.1.0).fitted, all_fit parts h.1.0 h.1.1.1)

pub spelled : (o : Object) → IsValid o → Spells o (written_form o)
spelled o v = record { stands = v.1.stands; parts = all_spelled (object_parts o) v.0 v.1.parts }

pub least : (o : Object) (bytes : List ℕ) → Spells o bytes → length (written_form o) ≤ length bytes
least o bytes is = all_least (object_parts o) bytes is.parts

pub read_back : (o : Object) → IsValid o → object_at (written_form o) ≡ Ok o
read_back o v = only o (written_form o) (spelled o v)

-- ---- writing

pub valid : (o : Object) → IsValid o → AllFit (object_parts o)
valid o v = all_fit (object_parts o) v.0 v.1.parts

put_fits : (out : List ℕ) (parts : List Part) → AllFit parts → put_all out parts ≡ Ok (out ++ flat_map written parts)
put_fits out [] h = ap Ok (sym (append-nil out))
put_fits out (part ∷ parts) h =
    rw h.0 (put_fits (out ++ written part) parts h.1 ∙ ap Ok (append_assoc out (written part) (flat_map written parts)))

pub written_so : (o : Object) → AllFit (object_parts o) → write_of o ≡ Ok (written_form o)
written_so o h = put_fits [] (object_parts o) h

record Wrote (out : List ℕ) (parts : List Part) (bytes : List ℕ) : Type 0 where
  fit : AllFit parts
  is : bytes ≡ out ++ flat_map written parts

abbrev ok : List ℕ → Result (List ℕ) ℕ
ok x = Ok x

ok_is : (x y : List ℕ) → ok x ≡ ok y → x ≡ y
ok_is x y e = cc

abbrev err : ℕ → Result (List ℕ) ℕ
err n = Err n

err_is : (m n : ℕ) → err m ≡ err n → m ≡ n
err_is m n e = cc

wrote : (out : List ℕ) (parts : List Part) (bytes : List ℕ) → put_all out parts ≡ Ok bytes → Wrote out parts bytes
wrote out [] bytes e = record { fit = tt; is = sym (ok_is out bytes e) ∙ sym (append-nil out) }
wrote out (part ∷ parts) bytes e = at (wrote (out ++ written part) parts bytes) (fits part) refl e
  where
    at : (put_all (out ++ written part) parts ≡ Ok bytes → Wrote (out ++ written part) parts bytes) → (z : Bool)
        → fits part ≡ z → (cond z (Ok (out ++ written part)) (Err (length out)) >>= λ more. put_all more parts) ≡ Ok bytes
        → Wrote out (part ∷ parts) bytes
    at up true is e =
        let w = up e in
        record { fit = (is, w.fit); is = w.is ∙ append_assoc out (written part) (flat_map written parts) }
    at up false is e = absurd cc

pub whole : (o : Object) (bytes : List ℕ) → write_of o ≡ Ok bytes → AllFit (object_parts o) × (bytes ≡ written_form o)
whole o bytes e = let w = wrote [] (object_parts o) bytes e in (w.fit, w.is)

-- where writing stops
record Stops (out : List ℕ) (parts : List Part) (at : ℕ) : Type 0 where
  before : List Part
  part : Part
  after : List Part
  parts_are : parts ≡ before ++ part ∷ after
  before_fit : AllFit before
  misfit : fits part ≡ false
  place : at ≡ length (out ++ flat_map written before)

stops : (out : List ℕ) (parts : List Part) (place : ℕ) → put_all out parts ≡ Err place → Stops out parts place
stops out [] place e = absurd cc
stops out (part ∷ parts) place e = at (stops (out ++ written part) parts place) (fits part) refl e
  where
    at : (put_all (out ++ written part) parts ≡ Err place → Stops (out ++ written part) parts place) → (z : Bool)
        → fits part ≡ z → (cond z (Ok (out ++ written part)) (Err (length out)) >>= λ more. put_all more parts) ≡ Err place
        → Stops out (part ∷ parts) place
    at up true is e =
        let s = up e in
        record {
          before = part ∷ s.before;
          part = s.part;
          after = s.after;
          parts_are = ap (λ (ps : List Part). part ∷ ps) s.parts_are;
          before_fit = (is, s.before_fit);
          misfit = s.misfit;
          place = s.place ∙ ap length (append_assoc out (written part) (flat_map written s.before));
        }
    at up false is e = record {
      before = [];
      part = part;
      after = parts;
      parts_are = refl;
      before_fit = tt;
      misfit = is;
      place = sym (err_is (length out) place e) ∙ ap length (sym (append-nil out));
    }

pub misfit : (o : Object) (at : ℕ) → write_of o ≡ Err at → IsFirstMisfit (object_parts o) at
misfit o at e =
    let s = stops [] (object_parts o) at e in
    record {
      before = s.before;
      part = s.part;
      after = s.after;
      parts_are = s.parts_are;
      before_fit = s.before_fit;
      misfit = s.misfit;
      place = s.place;
    }
