-- A source is one typed module at most.
use Rattle.std.proofs.Common.{◌≡◌, ◌<◌, ◌⊎◌, ℕ, suc, List, [], ◌∷◌, ◌++◌, length, Option, None, Some, inl, inr, refl, sym, ap, subst}
use Rattle.std.proofs.Common.{◌∙◌, arith}
use Rattle.std.specs.Prelude.{slice_get}
use Rattle.limbo_types.specs.Types.{FnTy}
use Rattle.limbo_layout.specs.Adts.{Def}
use Rattle.limbo_typed.specs.declared.module.Initial.{Initial}
use Rattle.limbo_typed.specs.Typed.{Var, Function, Declared, Interface, Exception, Module}
use Rattle.limbo_top.specs.Tops.{Placed}
use Rattle.limbo_entries.specs.Entries.{Entry, IsEntry, AreOnce}
use Rattle.limbo_scope.specs.declared.meaning.Meaning.{Meaning}
use Rattle.limbo_scope.specs.declared.meaning.Meaning.TheVariants as meaning
use Rattle.limbo_scope.specs.Scopes.{Scope, entered}
use Rattle.limbo_scope.specs.Laws.{declared_all}
use Rattle.limbo_meanings.specs.Meanings.{meaning_of}
use Rattle.limbo_meanings.specs.Names.{here, names_in}
use Rattle.limbo_exports.specs.Exports.{is_called}
use Rattle.limbo_context.specs.Context.{Context, Callee}
use Rattle.limbo_source_context.specs.SourceContext.{AreOutermost}
use Rattle.limbo_source_context.specs.Laws.{OneContext, OneBeginnings}
use Rattle.limbo_source_context.proofs.Ones.{one_list}
use Rattle.limbo_stmt_values.specs.limbo_stating.Functions.{Definition, AreFunctions}
use Rattle.limbo_stmt_values.specs.limbo_stating.Laws as stating
use Rattle.limbo_functions.specs.View.{own_name}
use Rattle.limbo_modules.specs.Definitions.{Defines, IsDefinition, AreDefinitions}
use Rattle.limbo_modules.specs.Declaring.{IsDeclared, AreDeclared}
use Rattle.limbo_modules.specs.Modules.{IsAround}
use Rattle.limbo_modules.specs.Laws.{OneModule}
use Rattle.limbo_modules.proofs.Defining.{Written, same_written}

same_Some : {A : Type 0} (x y : A) → Some x ≡ Some y → x ≡ y
same_Some x y e = cc

-- ---- scopes

abbrev Agree : List Entry → (xs ys : List (Option Meaning)) → Type 0
Agree es xs ys = (k : ℕ) (e : Entry) → IsEntry es k e → (x : Option Meaning) × (slice_get xs k ≡ Some x) × (slice_get ys k ≡ Some x)

names_same : (s : Option ℕ) (es : List Entry) (xs ys : List (Option Meaning)) → Agree es xs ys → names_in s xs es ≡ names_in s ys es
names_same s [] [] [] f = refl
names_same s [] [] (y ∷ ys) f = refl
names_same s [] (x ∷ xs) [] f = refl
names_same s [] (x ∷ xs) (y ∷ ys) f = refl
names_same s (e ∷ es) [] ys f = let r = f 0 e refl in let h = r.1 in absurd cc
names_same s (e ∷ es) (x ∷ xs) [] f = let r = f 0 e refl in let h = r.2 in absurd cc
names_same s (e ∷ es) (x ∷ xs) (y ∷ ys) f =
    let r = f 0 e refl in
    let h : Some x ≡ Some r.0 = r.1 in
    let i : Some y ≡ Some r.0 = r.2 in
    let p : x ≡ y = cc in
    ap (λ z. here s e z ++ names_in s xs es) p ∙ ap (λ zs. here s e y ++ zs) (names_same s es xs ys (λ k g at. f (suc k) g at))

one_outermost : (es : List Entry) (m : ℕ) (a b : List Scope) → AreOutermost es m a → AreOutermost es m b → a ≡ b
one_outermost es m a b h i =
    let agree : Agree es h.0 i.0 = λ k e at. (meaning_of es m k e, h.1 k e at, i.1 k e at) in
    let inner : declared_all (names_in (Some m) h.0 es) (entered []) ≡ declared_all (names_in (Some m) i.0 es) (entered []) =
    ap (λ ds. declared_all ds (entered [])) (names_same (Some m) es h.0 i.0 agree) in
    h.2 ∙ ap (λ ds. declared_all ds (entered (declared_all (names_in (Some m) h.0 es) (entered [])))) (names_same None es h.0 i.0 agree)
    ∙ ap (λ ss. declared_all (names_in None i.0 es) (entered ss)) inner ∙ sym i.2

-- ---- definitions

apart : (a b : ℕ) → (a < b) ⊎ ((b < a) ⊎ (a ≡ b))
apart a b = grind arith

defined : Written → Definition
defined q = record { name = own_name q.name q.part; of = q.of; block = q.block }

one_defined : (es : List Entry) (m n : ℕ) (s : Placed) (x y : Definition) → Defines es m n s x → Defines es m n s y → x ≡ y
unfolding defined
one_defined es m n s x y h i =
    let q = same_written h.name i.name h.part i.part h.of i.of h.block i.block (sym h.is ∙ i.is) in
    h.gives ∙ ap defined q ∙ sym i.gives

one_definition : (es : List Entry) (m : ℕ) (tops : List Placed) (n : ℕ) (x y : Definition) → IsDefinition es m tops n x
    → IsDefinition es m tops n y → x ≡ y
one_definition es m tops n x y h i = elim (apart h.place i.place) [
  | inl l ↦ absurd (i.first h.place h.standing x l h.there h.defines)
  | inr (inl l) ↦ absurd (h.first i.place i.standing y l i.there i.defines)
  | inr (inr e) ↦
      let same : h.standing ≡ i.standing =
      same_Some h.standing i.standing (sym h.there ∙ ap (slice_get tops) e ∙ i.there) in
      one_defined es m n i.standing x y (subst (λ (s : Placed). Defines es m n s x) same h.defines) i.defines
]

same_items : {A : Type 0} (xs ys : List A) → length xs ≡ length ys
    → ((n : ℕ) (x y : A) → slice_get xs n ≡ Some x → slice_get ys n ≡ Some y → x ≡ y) → xs ≡ ys
same_items [] [] l f = refl
same_items [] (y ∷ ys) l f = absurd (omega (arith, l))
same_items (x ∷ xs) [] l f = absurd (omega (arith, l))
same_items (x ∷ xs) (y ∷ ys) l f =
    let k : length xs ≡ length ys = omega (arith, l) in
    ap (λ z. z ∷ xs) (f 0 x y refl refl) ∙ ap (λ zs. y ∷ zs) (same_items xs ys k (λ n a b h i. f (suc n) a b h i))

pub one_row : (es : List Entry) (m : ℕ) (tops : List Placed) (many : ℕ) (xs ys : List Definition) → AreDefinitions es m tops many xs
    → AreDefinitions es m tops many ys → xs ≡ ys
one_row es m tops many xs ys h i =
    same_items xs ys (h.as_many ∙ sym i.as_many)
    (λ n x y a b. one_definition es m tops n x y (h.each n x a) (i.each n y b))

-- ---- what is declared

same_function : (a b : ℕ) → Some (meaning.Function a) ≡ Some (meaning.Function b) → a ≡ b
same_function a b e = cc

one_declared : (es : List Entry) (m : ℕ) (fs : List Callee) (k : ℕ) (e : Entry) (x y : Declared) → IsDeclared es m fs k e x
    → IsDeclared es m fs k e y → x ≡ y
one_declared es m fs k e x y h i =
    let f = same_function x.function y.function (sym h.means ∙ i.means) in
    let c = same_Some h.callee i.callee (sym h.there ∙ ap (slice_get fs) f ∙ i.there) in
    let n : x.name ≡ y.name = h.named ∙ sym i.named in
    let o : x.of ≡ y.of = h.of ∙ ap (λ (z : Callee). z.of) c ∙ sym i.of in
    ap (λ (z : List ℕ). let r : Declared = record { name = z; of = x.of; function = x.function } in r) n
    ∙ ap (λ (z : FnTy). let r : Declared = record { name = y.name; of = z; function = x.function } in r) o
    ∙ ap (λ (z : ℕ). let r : Declared = record { name = y.name; of = y.of; function = z } in r) f

-- ---- what is known around the functions

module _ (one : OneContext) where
  pub same_around : (es : List Entry) (m : ℕ) (name : List ℕ) (c d : Context) (s t : List Scope) → AreOnce es
      → IsAround es m name c s → IsAround es m name d t → (c ≡ d) × (s ≡ t)
  same_around es m name c d s t once h i =
      (one es m name c d once h.context i.context, one_outermost es m s t h.outermost i.outermost)

-- ---- modules

make : List ℕ → List Def → List (List ℕ) → List Var → List Initial → List Function → List Declared → List Interface → Option ℕ
    → List Exception → Module
make a b c d e f g h i j = record {
  name = a;
  adts = b;
  modules = c;
  globals = d;
  initials = e;
  functions = f;
  declared = g;
  interfaces = h;
  system = i;
  exceptions = j;
}

module _ (x y : Module) where
  same_module : x.name ≡ y.name → x.adts ≡ y.adts → x.modules ≡ y.modules → x.globals ≡ y.globals → x.initials ≡ y.initials
      → x.functions ≡ y.functions → x.declared ≡ y.declared → x.interfaces ≡ y.interfaces → x.system ≡ y.system
      → x.exceptions ≡ y.exceptions → x ≡ y
  unfolding make
  same_module p1 p2 p3 p4 p5 p6 p7 p8 p9 p10 =
      ap (λ z. make z x.adts x.modules x.globals x.initials x.functions x.declared x.interfaces x.system x.exceptions) p1
      ∙ ap (λ z. make y.name z x.modules x.globals x.initials x.functions x.declared x.interfaces x.system x.exceptions) p2
      ∙ ap (λ z. make y.name y.adts z x.globals x.initials x.functions x.declared x.interfaces x.system x.exceptions) p3
      ∙ ap (λ z. make y.name y.adts y.modules z x.initials x.functions x.declared x.interfaces x.system x.exceptions) p4
      ∙ ap (λ z. make y.name y.adts y.modules y.globals z x.functions x.declared x.interfaces x.system x.exceptions) p5
      ∙ ap (λ z. make y.name y.adts y.modules y.globals y.initials z x.declared x.interfaces x.system x.exceptions) p6
      ∙ ap (λ z. make y.name y.adts y.modules y.globals y.initials y.functions z x.interfaces x.system x.exceptions) p7
      ∙ ap (λ z. make y.name y.adts y.modules y.globals y.initials y.functions y.declared z x.system x.exceptions) p8
      ∙ ap (λ z. make y.name y.adts y.modules y.globals y.initials y.functions y.declared y.interfaces z x.exceptions) p9
      ∙ ap (λ z. make y.name y.adts y.modules y.globals y.initials y.functions y.declared y.interfaces y.system z) p10

pub one_module : OneContext → OneBeginnings → stating.OneModule → OneModule
one_module contexts beginnings functions name tops es m x y once h i =
    let a = same_around contexts es m name h.context i.context h.scopes i.scopes once h.around i.around in
    let fs : h.context.functions ≡ i.context.functions = ap (λ (c : Context). c.functions) a.0 in
    let ds : h.definitions ≡ i.definitions =
    one_row es m tops (length i.context.functions) h.definitions i.definitions
    (subst (λ (n : ℕ). AreDefinitions es m tops n h.definitions) (ap length fs) h.are_definitions) i.are_definitions in
    let here : AreFunctions name i.scopes i.context.functions i.definitions i.context x.functions h.behind =
    subst (λ (c : Context). AreFunctions name i.scopes c.functions i.definitions c x.functions h.behind) a.0
    (subst (λ (s : List Scope). AreFunctions name s h.context.functions i.definitions h.context x.functions h.behind) a.1
    (subst (λ (d : List Definition). AreFunctions name h.scopes h.context.functions d h.context x.functions h.behind) ds
    h.functions)) in
    let f = functions name i.scopes i.context.functions i.definitions i.context h.behind i.behind x.functions y.functions here
    i.functions in
    let b = f.1 in
    let told : AreDeclared es m i.context.functions x.declared =
    subst (λ (c : List Callee). AreDeclared es m c x.declared) fs h.declared in
    let decl : x.declared ≡ y.declared =
    one_list (is_called None (Some m)) (IsDeclared es m i.context.functions) (IsDeclared es m i.context.functions)
    (one_declared es m i.context.functions) 0 es x.declared y.declared told i.declared in
    same_module x y (h.named ∙ sym i.named)
    (h.made.adts ∙ ap (λ (c : Context). c.adts) b ∙ sym i.made.adts)
    (h.made.modules ∙ ap (λ (c : Context). c.modules) b ∙ sym i.made.modules)
    (h.made.globals ∙ ap (λ (c : Context). c.globals) b ∙ sym i.made.globals)
    (beginnings es m x.initials y.initials once h.initials i.initials)
    f.0 decl
    (h.made.interfaces ∙ ap (λ (c : Context). c.interfaces) b ∙ sym i.made.interfaces)
    (h.made.system ∙ ap (λ (c : Context). c.system) b ∙ sym i.made.system)
    (h.made.exceptions ∙ ap (λ (c : Context). c.exceptions) b ∙ sym i.made.exceptions)
