-- What a print prints is the same where its format fits its frame.
use Rattle.std.proofs.Common.{◌≡◌, ℕ, suc, ℤ, Bool, true, false, List, [], ◌∷◌, ◌++◌, ◌∙◌, if◌then◌else◌}
use Rattle.std.specs.Prelude.{Option, Some, None, pos, negsuc, slice_get, ◌/◌, ◌%◌, ◌==◌, ◌&&◌, ◌+◌}
use Rattle.std.specs.Fmt.{signed_decimal}
use Rattle.std.specs.Int.{next_multiple_of}
use Rattle.system_model.specs.Verbs.{character, hexadecimal}
use Rattle.limbo_values.specs.declared.number.Kind.{Kind}
use Rattle.limbo_values.specs.declared.number.Kind.TheVariants.{Byte, Int, Big}
use Rattle.dis_meaning.specs.Words.{Word, Plain, Refer, Address, Access, Found, Wrong, ◌>>=◌, type_check, dead_address, or_wrong}
use Rattle.dis_meaning.specs.Words.{at_least_zero, word_number, word_at, number_in, plain, reference}
use Rattle.dis_meaning.specs.World as today
use Rattle.dis_meaning.specs.Numbers.{number_at, nth_number}
use Rattle.dis_meaning.specs.Formats as old
use Rattle.dis_meaning.specs.Formats.{in_front, bytes_taken}
use Rattle.dis_meaning.specs.Step as step
use Rattle.dis_memory.specs.Blocks.{World}
use Rattle.dis_memory.specs.Formats as new
use Rattle.dis_memory.specs.Control as control
use Rattle.dis_memory.specs.Sound.{IsThere, Refers, SomeRefers}
use Rattle.dis_memory.proofs.Growing.{both, found_same}
use Rattle.dis_memory.proofs.Sound.{word_refers}
use Rattle.dis_agreement.specs.Agreement.{WorldsAgree}
use Rattle.dis_agreement.proofs.Following.{Same, finds, fails, throws, itself, on, either_way, Calm, calm_then, calm_or}
use Rattle.dis_agreement.proofs.Reading.{text_same}

-- ---- what raises nothing

pub calm_number_of : (at : ℤ) → Calm (word_number at)
calm_number_of (negsuc n) = tt
calm_number_of (pos n) = go (n % 4 == 0)
  where
    go : (b : Bool) → Calm (if b then Found (n / 4) else Wrong type_check)
    go true = tt
    go false = tt

calm_at_least : (at : ℤ) → Calm (at_least_zero at)
calm_at_least (pos n) = tt
calm_at_least (negsuc n) = tt

calm_word : (ws : List Word) (at : ℤ) → Calm (word_at ws at)
calm_word ws at = calm_then (word_number at) _ (calm_number_of at) (λ k. calm_or type_check (slice_get ws k))

calm_in : (w : Word) → Calm (number_in w)
calm_in (Plain z) = tt
calm_in (Address place at) = tt
calm_in (Refer r) = tt

pub calm_plain : (w : Word) → Calm (plain w)
calm_plain (Plain z) = tt
calm_plain (Address place at) = tt
calm_plain (Refer r) = tt

calm_reference : (w : Word) → Calm (reference w)
calm_reference (Plain z) = tt
calm_reference (Address place at) = tt
calm_reference (Refer r) = tt

calm_nth : (ws : List Word) (k : ℕ) → Calm (nth_number ws k)
calm_nth ws k = calm_then (or_wrong type_check (slice_get ws k)) number_in (calm_or type_check (slice_get ws k)) calm_in

calm_number : (kind : Kind) (ws : List Word) (at : ℤ) → Calm (number_at kind ws at)
calm_number Byte ws at =
    calm_then (at_least_zero at) _ (calm_at_least at) (λ n. calm_then (nth_number ws (n / 4)) _ (calm_nth ws (n / 4)) (λ z. tt))
calm_number Int ws at = calm_then (word_at ws at) number_in (calm_word ws at) calm_in
calm_number Big ws at =
    calm_then (word_number at) _ (calm_number_of at) (λ k. calm_then (nth_number ws k) _ (calm_nth ws k) (λ high.
    calm_then (nth_number ws (suc k)) _ (calm_nth ws (suc k)) (λ low. tt)))

calm_text : (x : today.World) (r : Option ℕ) → Calm (step.text_at x r)
calm_text x None = tt
calm_text x (Some n) = calm_then (today.block x n) step.text_of (calm_or dead_address (slice_get x.blocks n)) inner
  where
    inner : (c : today.Content) → Calm (step.text_of c)
    inner (today.Text chars) = tt
    inner (today.Instance object words) = tt
    inner (today.Sys names) = tt

-- ---- formats

fitting_same : {T : Type 0} {a b : Access T} → Calm a → Same a b → Same a (new.fitting b)
fitting_same c (finds t) = finds t
fitting_same c (fails n b) = fails n _
fitting_same c (throws text) = absurd c

in_front_same : (front : List ℕ) {a b : Access (List ℕ)} → Same a b → Same (in_front front a) (in_front front b)
in_front_same front s = on _ _ s (λ more e f. finds (front ++ more))

module _ (y : World) (words : List Word) where
  -- What follows is the same, from wherever it begins.
  abbrev SameRest : (ℕ → Access (List ℕ)) → (ℕ → Access (List ℕ)) → Type 0
  SameRest rest more = (k : ℕ) → Same (rest k) (more k)

  taking_same : (kind : Kind) (text : ℤ → List ℕ) (from : ℕ) (rest more : ℕ → Access (List ℕ)) → SameRest rest more
      → Same (old.taking words kind text from rest) (new.taking y words kind text from more)
  taking_same kind text from rest more s =
      let at = pos (next_multiple_of from (bytes_taken kind)) in
      on _ _ (fitting_same (calm_number kind words at) (itself (number_at kind words at)))
      (λ z e f. in_front_same (text z) (s (next_multiple_of from (bytes_taken kind) + bytes_taken kind)))

  verb_same : (c from : ℕ) (rest more : ℕ → Access (List ℕ)) → SameRest rest more
      → Same (old.verb words c from rest) (new.verb y words c from more)
  verb_same c from rest more s =
      either_way (c == 37) (in_front_same (37 ∷ []) (s from))
      (either_way (c == 100) (taking_same Int signed_decimal from rest more s)
      (either_way (c == 99) (taking_same Int (λ z. character z ∷ []) from rest more s)
      (either_way (c == 120) (taking_same Int hexadecimal from rest more s) (fails type_check _))))

  pub formatted_same : (format : List ℕ) (from : ℕ) → Same (old.formatted words format from) (new.formatted y words format from)
  formatted_same [] from = finds []
  formatted_same (c ∷ []) from = either_way (c == 37) (fails type_check _) (finds (c ∷ []))
  formatted_same (c ∷ d ∷ []) from =
      either_way (c == 37) (verb_same d from (λ k. Found []) (λ k. Found []) (λ k. finds []))
      (in_front_same (c ∷ []) (formatted_same (d ∷ []) from))
  formatted_same (c ∷ d ∷ e ∷ cs) from =
      either_way (c == 37)
      (either_way (d == 98 && e == 100)
      (taking_same Big signed_decimal from (λ k. old.formatted words cs k) (λ k. new.formatted y words cs k) (λ k. formatted_same cs k))
      (verb_same d from (λ k. old.formatted words (e ∷ cs) k) (λ k. new.formatted y words (e ∷ cs) k) (λ k. formatted_same (e ∷ cs) k)))
      (in_front_same (c ∷ []) (formatted_same (d ∷ e ∷ cs) from))

-- The text of a print, whose frame's references lead to what is there.
pub printed_same : (x : today.World) (y : World) (words : List Word) → WorldsAgree x y → ((n : ℕ) → SomeRefers words n → IsThere y n)
    → Same (step.printed x words) (control.printed y words)
printed_same x y words w there =
    on _ _ (fitting_same calm
    (on _ _ (itself (word_at words (pos 32) >>= reference)) (λ r e f. text_same x y w r (λ n g. there n (named r n f g)))))
    (λ format e f. formatted_same y words format 36)
  where
    calm : Calm (word_at words (pos 32) >>= reference >>= step.text_at x)
    calm = calm_then (word_at words (pos 32) >>= reference) (step.text_at x)
        (calm_then (word_at words (pos 32)) reference (calm_word words (pos 32)) calm_reference) (calm_text x)

    is_refer : (v : Word) (r : Option ℕ) (n : ℕ) → reference v ≡ Found r → r ≡ Some n → Refers v n
    is_refer (Refer s) r n e f = found_same s r e ∙ f
    is_refer (Plain z) r n e f = absurd cc
    is_refer (Address place at) r n e f = absurd cc

    named : (r : Option ℕ) (n : ℕ) → word_at words (pos 32) >>= reference ≡ Found r → r ≡ Some n → SomeRefers words n
    named r n e f =
        let h = both (word_at words (pos 32)) reference r e in
        word_refers words (pos 32) h.first n h.is (is_refer h.first r n h.then f)
