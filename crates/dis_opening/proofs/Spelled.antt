-- The characters that bytes spell.
use Rattle.std.proofs.Common.{◌≡◌, ℕ, Bool, true, false, List, refl, sym, ap, ◌∙◌, if◌then◌else◌}
use Rattle.std.specs.Prelude.{encode_utf8_all}
use Rattle.std.specs.Str.{IsUtf8, chars, all_scalars, is_utf8}
use Rattle.std.proofs.lemmas.Str.{IsUtf8-from_is_utf8, is_utf8-from_IsUtf8, chars_from_encodes}
use Rattle.dis_meaning.specs.Words.{Found, Wrong, type_check}
use Rattle.dis_memory.specs.Blocks.{Text}
use Rattle.dis_counts.specs.Opening.{text_of}
use Rattle.dis_opening.specs.declared.fault.StartFault.TheVariants.{Malformed}
use Rattle.dis_opening.specs.Starting.{Refuses}
use Rattle.dis_opening.proofs.Refusing.{refuses_wrong}

pub text_is : (bytes text : List ℕ) → encode_utf8_all text ≡ bytes → all_scalars text ≡ true → text_of bytes ≡ Found (Text text)
text_is bytes text e s =
    let u : IsUtf8 bytes = (text, (s, e)) in
    ap (λ b. if b then Found (Text (chars bytes)) else Wrong type_check) (is_utf8-from_IsUtf8 bytes u)
    ∙ ap (λ t. Found (Text t)) (sym (chars_from_encodes text bytes u e))

not_spelled : (bytes : List ℕ) (b : Bool) → is_utf8 bytes ≡ b → (IsUtf8 bytes → ⊥) → b ≡ false
not_spelled bytes true e bad = absurd (bad (IsUtf8-from_is_utf8 bytes e))
not_spelled bytes false e bad = refl

pub text_bad : (bytes : List ℕ) → (IsUtf8 bytes → ⊥) → Refuses Malformed (text_of bytes)
text_bad bytes bad =
    refuses_wrong (text_of bytes) type_check
    (ap (λ b. if b then Found (Text (chars bytes)) else Wrong type_check) (not_spelled bytes (is_utf8 bytes) refl bad))
