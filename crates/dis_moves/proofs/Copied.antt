-- Plain words that are copied into words of their own.
use Rattle.std.proofs.Common.{◌≡◌, ℕ, pos, zero, suc, ◌+◌, ◌-◌, ◌*◌, ◌/◌, ◌%◌, ◌^◌, ◌<◌, Bool, true, false, List, [], ◌∷◌, length, None, Result, Ok, Err, IfOk, refl, sym, ap, ◌∙◌, arith, rules, if◌then◌else◌, ◌&&◌, not}
use Rattle.std.specs.Prelude.{slice_set, ◌==◌, Vec}
use Rattle.std.specs.Global.{Global}
use Rattle.std.proofs.Math.Nat.{div-add-mod, zero-div}
use Rattle.dis_file.specs.declared.types.TypeDesc.{TypeDesc}
use Rattle.dis_file.specs.References.{marks}
use Rattle.ref_heap.specs.declared.word.Word as code_word
use Rattle.dis_meaning.specs.Words.{Word, Plain, Refer, Access, Found, ◌>>=◌, blank, blanks}
use Rattle.dis_memory.specs.Copies.{is_whole, bytes_from, moved, plain_words, put, put_bytes}
use Rattle.dis_memory.specs.Lists.{plain_type}
use Rattle.dis_places.specs.declared.fault.Halt.{Halt}
use Rattle.dis_places.specs.Words.{view_words, Gives}
use Rattle.dis_stores.proofs.Blocks.{halts_on, halts_same}
use Rattle.dis_copies.specs.Spans.{is_refer, kinds, none_refers, over}
use Rattle.dis_copies.proofs.Overs.{put_over}
use Rattle.dis_moves.specs.Bytes.{bytes_moved}
use Rattle.dis_moves.proofs.Windows.{AreAt, all_as, bytes_kinds, meets_as, words_long, words_plain}

-- ---- words as they are made

bare_marks : (k : ℕ) → marks [] k ≡ false
bare_marks k = ap (λ q. q % 2 == 1) (zero-div (2 ^ (7 - k % 8)))

blanks_plain : (size from n : ℕ) → none_refers (blanks (record { size = size; map = [] }) from n) ≡ true
blanks_plain size from zero = refl
blanks_plain size from (suc n) =
    ap (λ b. not (is_refer (if b then Refer None else Plain (pos 0))) && none_refers (blanks (record { size = size; map = [] }) (suc from) n)) (bare_marks from)
    ∙ blanks_plain size (suc from) n

blanks_long : (desc : TypeDesc) (from n : ℕ) → length (blanks desc from n) ≡ n
blanks_long desc from zero = refl
blanks_long desc from (suc n) = ap suc (blanks_long desc (suc from) n)

pub blank_plain : (count : ℕ) → none_refers (blank (plain_type count)) ≡ true
blank_plain count = blanks_plain (plain_type count).size 0 ((plain_type count).size / 4)

-- ---- words over as many others

at_front : (w : Word) (ws : List Word) (j : ℕ) (vs : List Word) → AreAt ws j vs → AreAt (w ∷ ws) (suc j) vs
at_front w ws j [] a = tt
at_front w ws j (v ∷ vs) a = (a.0, at_front w ws (suc j) vs a.1)

at_self : (ws : List Word) → AreAt ws 0 ws
at_self [] = tt
at_self (w ∷ ws) = (refl, at_front w ws 0 ws (at_self ws))

over_front : (w : Word) (ws : List Word) (j : ℕ) (vs : List Word) → over (w ∷ ws) (suc j) vs ≡ w ∷ over ws j vs
over_front w ws j [] = refl
over_front w ws j (v ∷ vs) = over_front w (slice_set ws j v) (suc j) vs

all_over : (ws vs : List Word) → length ws ≡ length vs → over ws 0 vs ≡ vs
all_over [] [] e = refl
all_over [] (v ∷ vs) e = absurd (omega (arith, e))
all_over (w ∷ ws) [] e = absurd (omega (arith, e))
all_over (w ∷ ws) (v ∷ vs) e = over_front v ws 0 vs ∙ ap (λ us. v ∷ us) (all_over ws vs (omega (arith, e)))

kinds_plain : (us vs : List Word) → none_refers us ≡ true → none_refers vs ≡ true → length us ≡ length vs → kinds us ≡ kinds vs
kinds_plain [] [] a b e = refl
kinds_plain [] (v ∷ vs) a b e = absurd (omega (arith, e))
kinds_plain (u ∷ us) [] a b e = absurd (omega (arith, e))
kinds_plain (u ∷ us) (v ∷ vs) a b e = go (is_refer u) (is_refer v) a b (λ f g. kinds_plain us vs f g (omega (arith, e)))
  where
    go : (c d : Bool) → (not c && none_refers us) ≡ true → (not d && none_refers vs) ≡ true → (none_refers us ≡ true → none_refers vs ≡ true → kinds us ≡ kinds vs) →
        (c ∷ kinds us) ≡ (d ∷ kinds vs)
    go false false a b more = ap (λ ks. false ∷ ks) (more a b)
    go true d a b more = absurd cc
    go false true a b more = absurd cc

put_all : (ws vs : List Word) → none_refers ws ≡ true → none_refers vs ≡ true → length ws ≡ length vs → put ws 0 vs ≡ Found vs
put_all ws vs a b e =
    put_over ws 0 vs ∙ ap (λ m. m >>= λ u. Found (over ws 0 vs)) (meets_as ws 0 ws vs (at_self ws) (kinds_plain vs ws b a (sym e)))
    ∙ ap Found (all_over ws vs e)

-- ---- what is copied

whole_long : (count : ℕ) → is_whole count ≡ true → length (blank (plain_type count)) ≡ count / 4
whole_long count e =
    let none : count % 4 ≡ 0 = search rules in
    let d = div-add-mod count 4 in
    let f = div-add-mod (count + 3) 4 in
    let g = div-add-mod ((count + 3) / 4 * 4) 4 in
    let r : (count + 3) % 4 < 4 = omega arith in
    let s : ((count + 3) / 4 * 4) % 4 < 4 = omega arith in
    blanks_long (plain_type count) 0 ((plain_type count).size / 4) ∙ omega (arith, none, d, f, g, r, s)

both : (a b : Bool) → (a && true && b) ≡ true → b ≡ true
both true true e = refl
both true false e = absurd cc
both false b e = absurd cc

module _ (source : List Word) (from count : ℕ) where
  abbrev whole_or : Bool → Access (List Word)
  whole_or b =
      if b then plain_words source (from / 4) (count / 4) >>= put (blank (plain_type count)) 0 else bytes_moved source from (blank (plain_type count)) 0 count

  pub whole_copied : (r : Result (Vec code_word.Word Global) Halt) → (is_whole from && is_whole 0 && is_whole count) ≡ true →
      Gives (λ (found : Vec code_word.Word Global). view_words found.items) r (plain_words source (from / 4) (count / 4)) →
      Gives (λ (found : Vec code_word.Word Global). view_words found.items) r (moved source from (blank (plain_type count)) 0 count)
  whole_copied (Ok row) whole g =
      let vs = view_words row.items in
      let l = words_long source (from / 4) (count / 4) vs g in
      ap whole_or whole ∙ ap (λ a. a >>= put (blank (plain_type count)) 0) g
      ∙ put_all (blank (plain_type count)) vs (blank_plain count) (words_plain source (from / 4) (count / 4) vs g)
      (whole_long count (both (is_whole from) (is_whole count) whole) ∙ sym l)
  whole_copied (Err h) whole g = halts_same h _ _ (ap whole_or whole) (halts_on h (plain_words source (from / 4) (count / 4)) (put (blank (plain_type count)) 0) g)

  pub whole_bare : (r : Result (Vec code_word.Word Global) Halt) → Gives (λ (found : Vec code_word.Word Global). view_words found.items) r (plain_words source (from / 4) (count / 4)) →
      IfOk r (λ row. none_refers (view_words row.items) ≡ true)
  whole_bare (Ok row) g = words_plain source (from / 4) (count / 4) (view_words row.items) g
  whole_bare (Err h) g = tt

  pub bytes_copied : (r : Result (Vec code_word.Word Global) Halt) → (is_whole from && is_whole 0 && is_whole count) ≡ false →
      Gives (λ (found : Vec code_word.Word Global). view_words found.items) r (bytes_moved source from (blank (plain_type count)) 0 count) →
      Gives (λ (found : Vec code_word.Word Global). view_words found.items) r (moved source from (blank (plain_type count)) 0 count)
  bytes_copied (Ok row) whole g = ap whole_or whole ∙ g
  bytes_copied (Err h) whole g = halts_same h _ _ (ap whole_or whole) g

-- Bytes over words as they are made.
pub bytes_bare : (count : ℕ) (ws : List Word) (bs : List ℕ) (row : List Word) → ws ≡ blank (plain_type count) → put_bytes ws 0 bs ≡ Found row → none_refers row ≡ true
bytes_bare count ws bs row e f = all_as row ws (bytes_kinds ws 0 bs row f) ∙ ap none_refers e ∙ blank_plain count

pub bytes_then : (source : List Word) (from : ℕ) (target : List Word) (count : ℕ) (bs cs : List ℕ) (r : Result (Vec code_word.Word Global) Halt) → bytes_from source from count ≡ Found bs → cs ≡ bs →
    Gives (λ (found : Vec code_word.Word Global). view_words found.items) r (put_bytes target 0 cs) →
    Gives (λ (found : Vec code_word.Word Global). view_words found.items) r (bytes_moved source from target 0 count)
bytes_then source from target count bs cs (Ok row) e f g = ap (λ a. a >>= put_bytes target 0) e ∙ ap (put_bytes target 0) (sym f) ∙ g
bytes_then source from target count bs cs (Err h) e f g = halts_same h _ _ (ap (λ a. a >>= put_bytes target 0) e ∙ ap (put_bytes target 0) (sym f)) g
