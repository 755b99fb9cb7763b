-- What a source is refused for.
use Rattle.std.proofs.Common.{◌≡◌, ℕ, ◌≤◌, true, List, length, refl, sym, ◌∙◌, subst, arith, map, Ok, Err, Vec, Global, encode_utf8_all}
use Rattle.std.specs.Prelude.{Result, IfOk, IfErr, MatchResult}
use Rattle.std.specs.Str.{all_scalars, IsUtf8}
use Rattle.std.proofs.lemmas.Str.{encodes_same}
use Rattle.limbo_lexer.specs.declared.token.Kind.{Kind}
use Rattle.limbo_lexer.specs.declared.fault.Cause.{Cause}
use Rattle.limbo_lexer.specs.declared.fault.Cause.TheVariants as cause
use Rattle.limbo_lexer.specs.declared.fault.LexFault.{LexFault}
use Rattle.limbo_lexer.specs.declared.fault.LexFault.TheVariants.{NoMemory, BadUtf8, BadChar, BadEscape, NumberTooWide, Unclosed, SourceTooLong}
use Rattle.limbo_lexer.proofs.Cutting.{one_token_list, stops_none}
use Rattle.limbo_lexer.specs.Tokens.{HasTokenList}
use Rattle.limbo_lexer.specs.declared.token.Token.{Token}
use Rattle.limbo_lexer.specs.Causes.{IsSource, IsRefused, IsFor, IsBadUtf8, SourceStops, Stops}

pub one_source : (bytes s t : List ℕ) → IsSource bytes s → IsSource bytes t → s ≡ t
one_source bytes s t h k = encodes_same s t (h.spelled ∙ sym k.spelled)

stops_no_list : (bytes : List ℕ) (fault : Cause) → (fault ≡ cause.NoMemory → ⊥) → SourceStops bytes fault → (s : List ℕ) (list : List Kind) → IsSource bytes s → HasTokenList s list → ⊥
stops_no_list bytes fault n h s list is has =
    stops_none h.0 fault n h.2 list (subst (λ x. HasTokenList x list) (one_source bytes s h.0 is h.1) has)

-- A source that is refused, but for want of memory, has no token list.
pub refused_none : (bytes : List ℕ) (e : LexFault) → IsRefused bytes e → (e ≡ NoMemory → ⊥) → (s : List ℕ) (list : List Kind) → IsSource bytes s → HasTokenList s list → ⊥
refused_none bytes NoMemory h n s list is has = n refl
refused_none bytes (BadUtf8 at) h n s list is has = h.1.0 (s, (is.characters, is.spelled))
refused_none bytes (BadChar span) h n s list is has = stops_no_list bytes cause.BadChar (λ e. absurd (cc)) h s list is has
refused_none bytes (BadEscape span) h n s list is has = stops_no_list bytes cause.BadEscape (λ e. absurd (cc)) h s list is has
refused_none bytes (NumberTooWide span) h n s list is has = stops_no_list bytes cause.NumberTooWide (λ e. absurd (cc)) h s list is has
refused_none bytes (Unclosed span) h n s list is has = stops_no_list bytes cause.Unclosed (λ e. absurd (cc)) h s list is has
refused_none bytes SourceTooLong h n s list is has = let k = is.size in absurd (omega (arith, h, k))

-- What reading the text of a source refuses, the source is refused for.
pub refused_of : (bytes s : List ℕ) (e : LexFault) → IsSource bytes s → (fault : Cause) × IsFor fault e × Stops s fault → IsRefused bytes e
refused_of bytes s NoMemory is h = tt
refused_of bytes s (BadUtf8 at) is h = absurd h.1
refused_of bytes s (BadChar span) is h = (s, is, subst (λ x. Stops s x) h.1 h.2)
refused_of bytes s (BadEscape span) is h = (s, is, subst (λ x. Stops s x) h.1 h.2)
refused_of bytes s (NumberTooWide span) is h = (s, is, subst (λ x. Stops s x) h.1 h.2)
refused_of bytes s (Unclosed span) is h = (s, is, subst (λ x. Stops s x) h.1 h.2)
refused_of bytes s SourceTooLong is h = absurd h.1

pub is_source : (bytes s : List ℕ) → length bytes ≤ 1048576 → all_scalars s ≡ true → encode_utf8_all s ≡ bytes → IsSource bytes s
is_source bytes s a b c = record { size = a; characters = b; spelled = c }

abbrev pub Refuses : List ℕ → LexFault → Type 0
Refuses s e = (fault : Cause) × IsFor fault e × Stops s fault

abbrev pub Lexed : Type 0
Lexed = Result (Vec Token Global) LexFault

pub lex_none : (bytes s : List ℕ) → IsSource bytes s → (r : Lexed) → IfErr r (Refuses s) → IfErr r (λ e. (e ≡ NoMemory → ⊥) → (text : List ℕ) (list : List Kind) → IsSource bytes text → HasTokenList text list → ⊥)
lex_none bytes s is (Ok t) h = tt
lex_none bytes s is (Err e) h = refused_none bytes e (refused_of bytes s e is h)

memory_or : (e : LexFault) → ((e ≡ NoMemory → ⊥) → ⊥) → e ≡ NoMemory
memory_or NoMemory h = refl
memory_or (BadUtf8 at) h = absurd (h (λ e. absurd (cc)))
memory_or (BadChar span) h = absurd (h (λ e. absurd (cc)))
memory_or (BadEscape span) h = absurd (h (λ e. absurd (cc)))
memory_or (NumberTooWide span) h = absurd (h (λ e. absurd (cc)))
memory_or (Unclosed span) h = absurd (h (λ e. absurd (cc)))
memory_or SourceTooLong h = absurd (h (λ e. absurd (cc)))

pub lex_only : (bytes s : List ℕ) → IsSource bytes s → (r : Lexed) → IfOk r (λ tokens. HasTokenList s (map (λ token. token.kind) tokens.items)) → IfErr r (Refuses s) → (text : List ℕ) (list : List Kind) → IsSource bytes text → HasTokenList text list → MatchResult r (λ tokens. map (λ token. token.kind) tokens.items ≡ list) (λ e. e ≡ NoMemory)
lex_only bytes s is (Ok tokens) h k text list source has =
    one_token_list text (map (λ token. token.kind) tokens.items) list (subst (λ x. HasTokenList x (map (λ token. token.kind) tokens.items)) (one_source bytes s text is source) h) has
lex_only bytes s is (Err e) h k text list source has =
    memory_or e (λ n. refused_none bytes e (refused_of bytes s e is k) n text list source has)

-- Ill-formed bytes are refused as that, unless memory is wanting.
pub ill_formed : (bytes : List ℕ) (e : LexFault) → length bytes ≤ 1048576 → (IsUtf8 bytes → ⊥) → IsRefused bytes e → IsBadUtf8 e
ill_formed bytes NoMemory n h r = tt
ill_formed bytes (BadUtf8 at) n h r = tt
ill_formed bytes (BadChar span) n h r = absurd (h (r.0, (r.1.characters, r.1.spelled)))
ill_formed bytes (BadEscape span) n h r = absurd (h (r.0, (r.1.characters, r.1.spelled)))
ill_formed bytes (NumberTooWide span) n h r = absurd (h (r.0, (r.1.characters, r.1.spelled)))
ill_formed bytes (Unclosed span) n h r = absurd (h (r.0, (r.1.characters, r.1.spelled)))
ill_formed bytes SourceTooLong n h r = absurd (omega (arith, n, r))
