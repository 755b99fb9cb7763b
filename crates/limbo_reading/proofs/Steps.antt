-- What joins the laws of readers step by step.
use Rattle.std.proofs.Common.{◌≡◌, ℕ, zero, suc, ◌+◌, ◌≤◌, ◌<◌, Bool, true, false, cond, List, [], ◌∷◌, length, Option, Some, None, Result, Ok, Err, refl, sym, ap, subst, ◌∙◌, arith, rules, inl, inr, ◌⊎◌}
use Rattle.std.specs.Prelude.{IfOk, if◌then◌else◌}
use denote.Enum.Bare.{same_true}
use Rattle.limbo_lexer.specs.declared.token.Kind.{Kind}
use Rattle.limbo_lexer.specs.declared.token.Kind.TheVariants as kind
use Rattle.limbo_lexer.specs.declared.token.Mark.{Mark}
use Rattle.limbo_lexer.specs.declared.token.Key.{Key}
use Rattle.limbo_lexer.specs.contracts.token.Mark as the_mark
use Rattle.limbo_lexer.specs.contracts.token.Key as the_key
use Rattle.limbo_tree.specs.Tokens.{◌▸◌, ◌▹◌}
use Rattle.limbo_reading.specs.declared.fault.Fault.{Fault}
use Rattle.limbo_reading.specs.declared.fault.Fault.TheVariants.{Syntax, TooDeep}
use Rattle.limbo_reading.specs.declared.fault.ReadError.{ReadError}
use Rattle.limbo_reading.specs.declared.fault.ReadError.TheVariants as errors
use Rattle.limbo_reading.specs.Reading.{◌>>=◌, Reader, choose, same_mark, same_key, after_mark, after_key, after_name, expect_mark, expect_key, expect_name, Fails}

-- ---- which way a choice goes

pub tell : {A : Type 0} (o : Option A) → ((x : A) × (o ≡ Some x)) ⊎ (o ≡ None)
tell (Some x) = inl (x, refl)
tell None = inr refl

pub tell_bool : (b : Bool) → (b ≡ true) ⊎ (b ≡ false)
tell_bool true = inl refl
tell_bool false = inr refl

pub tell_result : {A : Type 0} (r : Result A Fault) → ((x : A) × (r ≡ Ok x)) ⊎ ((f : Fault) × (r ≡ Err f))
tell_result (Ok x) = inl (x, refl)
tell_result (Err f) = inr (f, refl)

-- ---- tokens that were looked at

if_some : {A : Type 0} (b : Bool) (x y : A) → cond b (Some x) None ≡ Some y → (b ≡ true) × (x ≡ y)
if_some true x y e = (refl, cc)
if_some false x y e = absurd cc

pub after_mark_is : (m : Mark) (ts us : List Kind) → after_mark m ts ≡ Some us → ts ≡ m ▸ us
after_mark_is m [] us e = absurd cc
after_mark_is m (kind.Mark n ∷ ts) us e =
    let p = if_some (same_mark n m) ts us e in
    let same : n ≡ m = same_true the_mark.the_type (search rules) n m p.0 in
    ap (λ (k : Mark). k ▸ ts) same ∙ ap (λ (vs : List Kind). m ▸ vs) p.1
after_mark_is m (_ ∷ ts) us e = absurd cc

pub after_key_is : (k : Key) (ts us : List Kind) → after_key k ts ≡ Some us → ts ≡ k ▹ us
after_key_is k [] us e = absurd cc
after_key_is k (kind.Key l ∷ ts) us e =
    let p = if_some (same_key l k) ts us e in
    let same : l ≡ k = same_true the_key.the_type (search rules) l k p.0 in
    ap (λ (j : Key). j ▹ ts) same ∙ ap (λ (vs : List Kind). k ▹ vs) p.1
after_key_is k (_ ∷ ts) us e = absurd cc

pub after_name_is : (ts : List Kind) (x : List ℕ × List Kind) → after_name ts ≡ Some x → ts ≡ kind.Name x.0 ∷ x.1
after_name_is [] x e = absurd cc
after_name_is (kind.Name n ∷ ts) x e = let same : Some (n, ts) ≡ Some x = e in cc
after_name_is (_ ∷ ts) x e = absurd cc

-- ---- sound: what a reader answers, through each step

pub took_bind : {A B : Type 0} (r : Result A Fault) (k : A → Result B Fault) (P : A → Type 0) (Q : B → Type 0) → IfOk r P → ((x : A) → P x → IfOk (k x) Q) → IfOk (r >>= k) Q
took_bind (Ok x) k P Q p f = f x p
took_bind (Err e) k P Q p f = tt

pub took_choose : {A B : Type 0} (o : Option A) (x : Result B Fault) (f : A → Result B Fault) (Q : B → Type 0) → (o ≡ None → IfOk x Q) → ((a : A) → o ≡ Some a → IfOk (f a) Q) → IfOk (choose o x f) Q
took_choose None x f Q n s = n refl
took_choose (Some a) x f Q n s = s a refl

pub took_if : {B : Type 0} (b : Bool) (x y : Result B Fault) (Q : B → Type 0) → (b ≡ true → IfOk x Q) → (b ≡ false → IfOk y Q) → IfOk (cond b x y) Q
took_if true x y Q t f = t refl
took_if false x y Q t f = f refl

pub took_mark : (m : Mark) (ts : List Kind) → IfOk (expect_mark m ts) (λ us. ts ≡ m ▸ us)
took_mark m ts = took_choose (after_mark m ts) _ _ _ (λ n. tt) (λ us e. after_mark_is m ts us e)

pub took_key : (k : Key) (ts : List Kind) → IfOk (expect_key k ts) (λ us. ts ≡ k ▹ us)
took_key k ts = took_choose (after_key k ts) _ _ _ (λ n. tt) (λ us e. after_key_is k ts us e)

pub took_name : (ts : List Kind) → IfOk (expect_name ts) (λ x. ts ≡ kind.Name x.0 ∷ x.1)
took_name ts = took_choose (after_name ts) _ _ _ (λ n. tt) (λ x e. after_name_is ts x e)

-- ---- deeper: more budget changes nothing but a fault of depth

abbrev pub Deepens : {A : Type 0} → Result A Fault → Result A Fault → Type 0
Deepens (Ok x) s = s ≡ Ok x
Deepens (Err (Syntax n)) s = s ≡ Err (Syntax n)
Deepens (Err (TooDeep n)) s = Unit {0}

pub deepens_same : {A : Type 0} (r : Result A Fault) → Deepens r r
deepens_same (Ok x) = refl
deepens_same (Err (Syntax n)) = refl
deepens_same (Err (TooDeep n)) = tt

pub deepens_bind : {A B : Type 0} (r s : Result A Fault) (k l : A → Result B Fault) → Deepens r s → ((x : A) → Deepens (k x) (l x)) → Deepens (r >>= k) (s >>= l)
deepens_bind (Ok x) s k l d f = rw d (f x)
deepens_bind (Err (Syntax n)) s k l d f = rw d refl
deepens_bind (Err (TooDeep n)) s k l d f = tt

pub deepens_choose : {A B : Type 0} (o : Option A) (x y : Result B Fault) (f g : A → Result B Fault) → Deepens x y → ((a : A) → Deepens (f a) (g a)) → Deepens (choose o x f) (choose o y g)
deepens_choose None x y f g n s = n
deepens_choose (Some a) x y f g n s = s a

pub deepens_if : {B : Type 0} (b : Bool) (x y u v : Result B Fault) → Deepens x u → Deepens y v → Deepens (cond b x y) (cond b u v)
deepens_if true x y u v t f = t
deepens_if false x y u v t f = f

-- ---- where a fault of depth stands: with a budget b and n tokens, at least b of them stand before it; and a reader
-- leaves no more than n tokens, or fewer by c

abbrev pub Keeps : {A : Type 0} → ℕ → ℕ → ℕ → Result (A × List Kind) Fault → Type 0
Keeps b c n (Ok x) = length x.1 + c ≤ n
Keeps b c n (Err (Syntax m)) = Unit {0}
Keeps b c n (Err (TooDeep m)) = m + b ≤ n

-- a reader of fewer tokens
pub keeps_less : {A : Type 0} (b c d m n : ℕ) (r : Result (A × List Kind) Fault) → Keeps b c m r → m + d ≤ n + c → m ≤ n → Keeps b d n r
keeps_less b c d m n (Ok x) h le up = omega arith
keeps_less b c d m n (Err (Syntax k)) h le up = tt
keeps_less b c d m n (Err (TooDeep k)) h le up = omega arith

-- from the tokens behind what was read before; the whole takes as many as both
pub keeps_bind : {A B : Type 0} (b c d e n : ℕ) (r : Result (A × List Kind) Fault) (k : A × List Kind → Result (B × List Kind) Fault) → Keeps b c n r → ((x : A × List Kind) → length x.1 + c ≤ n → Keeps b d (length x.1) (k x)) → e ≤ c + d → Keeps b e n (r >>= k)
keeps_bind b c d e n (Ok x) k h f le = keeps_less b d e (length x.1) n (k x) (f x h) (omega arith) (omega arith)
keeps_bind b c d e n (Err (Syntax m)) k h f le = tt
keeps_bind b c d e n (Err (TooDeep m)) k h f le = h

-- the same where a mark or a keyword was read, of which only the rest is told
abbrev pub KeepsRest : ℕ → Result (List Kind) Fault → Type 0
KeepsRest n (Ok us) = length us + 1 ≤ n
KeepsRest n (Err (Syntax m)) = Unit {0}
KeepsRest n (Err (TooDeep m)) = ⊥

pub keeps_rest : {B : Type 0} (b d e n : ℕ) (r : Result (List Kind) Fault) (k : List Kind → Result (B × List Kind) Fault) → KeepsRest n r → ((us : List Kind) → length us + 1 ≤ n → Keeps b d (length us) (k us)) → e ≤ 1 + d → Keeps b e n (r >>= k)
keeps_rest b d e n (Ok us) k h f le = keeps_less b d e (length us) n (k us) (f us h) (omega arith) (omega arith)
keeps_rest b d e n (Err (Syntax m)) k h f le = tt
keeps_rest b d e n (Err (TooDeep m)) k h f le = absurd h

pub keeps_choose : {A B : Type 0} (b c n : ℕ) (o : Option A) (x : Result (B × List Kind) Fault) (f : A → Result (B × List Kind) Fault) → (o ≡ None → Keeps b c n x) → ((a : A) → o ≡ Some a → Keeps b c n (f a)) → Keeps b c n (choose o x f)
keeps_choose b c n None x f h s = h refl
keeps_choose b c n (Some a) x f h s = s a refl

pub keeps_if : {B : Type 0} (b c n : ℕ) (t : Bool) (x y : Result (B × List Kind) Fault) → Keeps b c n x → Keeps b c n y → Keeps b c n (cond t x y)
keeps_if b c n true x y h k = h
keeps_if b c n false x y h k = k

pub after_mark_length : (m : Mark) (ts us : List Kind) → after_mark m ts ≡ Some us → length us + 1 ≡ length ts
after_mark_length m ts us e = omega (arith, ap length (after_mark_is m ts us e))

pub after_key_length : (k : Key) (ts us : List Kind) → after_key k ts ≡ Some us → length us + 1 ≡ length ts
after_key_length k ts us e = omega (arith, ap length (after_key_is k ts us e))

pub after_name_length : (ts : List Kind) (x : List ℕ × List Kind) → after_name ts ≡ Some x → length x.1 + 1 ≡ length ts
after_name_length ts x e = omega (arith, ap length (after_name_is ts x e))

pub keeps_mark : (m : Mark) (ts : List Kind) → KeepsRest (length ts) (expect_mark m ts)
keeps_mark m ts = elim (tell (after_mark m ts)) [
  | inl (us, e) ↦ rw e (omega (arith, after_mark_length m ts us e))
  | inr e ↦ rw e tt
]

pub keeps_key : (k : Key) (ts : List Kind) → KeepsRest (length ts) (expect_key k ts)
keeps_key k ts = elim (tell (after_key k ts)) [
  | inl (us, e) ↦ rw e (omega (arith, after_key_length k ts us e))
  | inr e ↦ rw e tt
]

pub keeps_name : (b : ℕ) (ts : List Kind) → Keeps b 1 (length ts) (expect_name ts)
keeps_name b ts = elim (tell (after_name ts)) [
  | inl (x, e) ↦ rw e (omega (arith, after_name_length ts x e))
  | inr e ↦ rw e tt
]

-- ---- failing: a failure of a step is the failure of the whole

pub fails_same : {A : Type 0} (e : ReadError) (r s : Result A Fault) → r ≡ s → Fails e s → Fails e r
fails_same errors.NoMemory r s h f = tt
fails_same (errors.Fault d) r s h f = h ∙ f

pub fails_bind : {A B : Type 0} (e : ReadError) (r : Result A Fault) (k : A → Result B Fault) → Fails e r → Fails e (r >>= k)
fails_bind errors.NoMemory r k f = tt
fails_bind (errors.Fault d) r k f = ap (λ (x : Result _ Fault). x >>= k) f

-- ---- how many tokens are left

pub mark_shorter : (m : Mark) (ts us : List Kind) → after_mark m ts ≡ Some us → length us < length ts
mark_shorter m ts us e = omega (arith, after_mark_length m ts us e)

pub key_shorter : (k : Key) (ts us : List Kind) → after_key k ts ≡ Some us → length us < length ts
key_shorter k ts us e = omega (arith, after_key_length k ts us e)

-- what Keeps says of an answer
pub kept_shorter : {A : Type 0} (b c n : ℕ) (r : Result (A × List Kind) Fault) (x : A) (us : List Kind) → Keeps b c n r → r ≡ Ok (x, us) → length us + c ≤ n
kept_shorter b c n r x us k e = rw e at k

pub name_shorter : (ts : List Kind) (n : List ℕ) (us : List Kind) → expect_name ts ≡ Ok (n, us) → length us < length ts
name_shorter ts n us e = omega (arith, kept_shorter 0 1 (length ts) (expect_name ts) n us (keeps_name 0 ts) e)
