-- Prints: what there is of parts, and when there is none.
use Rattle.std.proofs.lemmas.List.{take_more}
use Rattle.std.proofs.Common.{◌≡◌, ◌+◌, ◌<◌, take, length, get_or, ℕ, List, [], ◌∷◌, ◌++◌}
use Rattle.std.proofs.Common.{Option, None, Some, option_map, refl, sym, ap, subst, ◌∙◌, inl, inr, append_assoc}
use Rattle.std.proofs.lemmas.Option.{same_Some, none-some}
use Rattle.limbo_values.specs.declared.number.Kind.TheVariants as kind
use Rattle.limbo_types.specs.Types as ty
use Rattle.limbo_types.specs.Types.{Ty, RefAdt, RefPick}
use Rattle.limbo_types.specs.View.{view_ty}
use Rattle.limbo_typed.specs.declared.print.Hole.{Hole}
use Rattle.limbo_typed.specs.declared.print.Hole.TheVariants as hole
use Rattle.limbo_typed.specs.declared.print.Piece.{Piece}
use Rattle.limbo_typed.specs.declared.print.Piece.TheVariants as piece
use Rattle.limbo_typed.specs.declared.print.Printed.{Printed}
use Rattle.limbo_typed.specs.Typed as tree
use Rattle.limbo_typed.specs.Typed.{Expr, Of, Exprs, Optional, Present, Module, Var}
use Rattle.limbo_typed.specs.Fitting.{Stands, IsVariantOf, AllStand, IsRefOf}
use Rattle.limbo_typed.specs.Sound.{type_of, types_of, holes, type_of_hole, printed_type, IsSystem, SoundExpr, SoundFile}
use Rattle.limbo_typed.specs.View.{view_expr, view_exprs}
use Rattle.limbo_typed.proofs.View.{view_expr-out}
use Rattle.limbo_refusals.specs.declared.fault.ExprFault.{ExprFault}
use Rattle.limbo_refusals.specs.declared.fault.ExprFault.TheVariants as fault
use Rattle.limbo_refusals.specs.Refusals.{Refusal, Clash, BadFormat, NoneIs, told, Refuses}
use Rattle.limbo_forms.specs.ArgTypes.{arg_types}
use Rattle.limbo_formats.specs.declared.format.Verb.{Verb}
use Rattle.limbo_formats.specs.declared.format.FormatPart.{FormatPart}
use Rattle.limbo_formats.specs.declared.format.FormatPart.TheVariants as part
use Rattle.limbo_formats.specs.Formats.{IsFormat, Takes, Fits}
use Rattle.limbo_formats.specs.Formats as formats
use Rattle.limbo_formats.specs.FormatReading.{hole_for}
use Rattle.limbo_formats.proofs.Formats.{one_format}
use Rattle.limbo_arguments.specs.limbo_standing.Standing.{Settles, SettleEach}
use Rattle.limbo_arguments.proofs.limbo_standing_lemmas.Settled.{settled_once, settled_stands}
use Rattle.limbo_arguments.specs.Failing.{FailsEach}
use Rattle.limbo_arguments.proofs.Each.{Value, each_once, each_stand, each_fails, types_are}
use Rattle.limbo_calls.specs.Prints.{Output, Print, Fprint, Sprint, PrintsTo, Formats, Prints}
use Rattle.limbo_calls.specs.Refusing.{FailsAsFile, FailsFile, RefusesPrint}
use Rattle.limbo_calls.specs.Refusing as refusing
use Rattle.limbo_arguments.specs.Parts.{SoundMaybe}
use Rattle.limbo_calls.specs.Laws.{IsFit}

-- ---- faults

pub other_fault : (f : ExprFault) → (f ≡ fault.NoMemory → ⊥) → Some BadFormat ≡ option_map (λ (r : Refusal). BadFormat) (told f)
other_fault fault.NoMemory never = absurd (never refl)
other_fault (fault.Clash c) never = refl
other_fault fault.NotPlace never = refl
other_fault fault.CyclicStore never = refl
other_fault fault.ModuleValue never = refl
other_fault fault.BadFormat never = refl
other_fault fault.TypeTooLarge never = refl

-- a fault in another's place, which tells one thing
pub refuses_as : (f g : ExprFault) (s : Refusal) (P Q : Refusal → Type 0) → told g ≡ option_map (λ (r : Refusal). s) (told f)
    → ((r : Refusal) → P r → Q s) → Refuses f P → Refuses g Q
refuses_as f g s P Q e w h = go (told f) (told g) e h
  where
    go : (o p : Option Refusal) → p ≡ option_map (λ (r : Refusal). s) o
        → (elim o as (λ (z : Option Refusal). Type 0) [ None ↦ Unit {0} | Some r ↦ P r ])
        → (elim p as (λ (z : Option Refusal). Type 0) [ None ↦ Unit {0} | Some r ↦ Q r ])
    go o None e h = tt
    go None (Some r) e h = absurd cc
    go (Some t) (Some r) e h = let q : s ≡ r = cc in subst Q q (w t h)

-- ---- formats

takes_hole : (v : Verb) (t : Ty) (h : Hole) → Takes v t h → hole_for v t ≡ Some h
takes_hole _ _ _ formats.int = refl
takes_hole _ _ _ formats.byte = refl
takes_hole _ _ _ formats.big = refl
takes_hole _ _ _ formats.Takes.chars = refl
takes_hole _ _ _ formats.nil = refl
takes_hole _ _ _ formats.character = refl
takes_hole _ _ _ formats.hexadecimal = refl

fit_none : (rs : List Piece) → Fits [] [] rs → [] ≡ rs
fit_none _ formats.done = refl

fit_chars : (t : List ℕ) (ps : List FormatPart) (ts : List Ty) (rs : List Piece) → Fits (part.Chars t ∷ ps) ts rs
    → (qs : List Piece) × Fits ps ts qs × (piece.Chars t ∷ qs ≡ rs)
fit_chars t ps ts _ (formats.Fits.chars _ _ _ qs f) = (qs, f, refl)

fit_error : (ps : List FormatPart) (ts : List Ty) (rs : List Piece) → Fits (part.Error ∷ ps) ts rs
    → (qs : List Piece) × Fits ps ts qs × (piece.Hole hole.Error ∷ qs ≡ rs)
fit_error ps ts _ (formats.error _ _ qs f) = (qs, f, refl)

fit_argument : (v : Verb) (t : Ty) (ps : List FormatPart) (ts : List Ty) (rs : List Piece) → Fits (part.Argument v ∷ ps) (t ∷ ts) rs
    → (h : Hole) × (qs : List Piece) × Takes v t h × Fits ps ts qs × (piece.Hole h ∷ qs ≡ rs)
fit_argument v t ps ts _ (formats.argument _ _ h _ _ qs k f) = (h, qs, k, f, refl)

pub fits_once : (ps : List FormatPart) (ts : List Ty) (qs rs : List Piece) → Fits ps ts qs → Fits ps ts rs → qs ≡ rs
fits_once _ _ _ rs formats.done k = fit_none rs k
fits_once _ _ _ rs (formats.Fits.chars t ps ts qs f) k =
    let p = fit_chars t ps ts rs k in ap (λ zs. piece.Chars t ∷ zs) (fits_once ps ts qs p.0 f p.1) ∙ p.2
fits_once _ _ _ rs (formats.error ps ts qs f) k =
    let p = fit_error ps ts rs k in ap (λ zs. piece.Hole hole.Error ∷ zs) (fits_once ps ts qs p.0 f p.1) ∙ p.2
fits_once _ _ _ rs (formats.argument v t h ps ts qs g f) k =
    let p = fit_argument v t ps ts rs k in
    let q : h ≡ p.0 = same_Some h p.0 (sym (takes_hole v t h g) ∙ takes_hole v t p.0 p.2) in
    ap (λ z. piece.Hole z ∷ qs) q ∙ ap (λ zs. piece.Hole p.0 ∷ zs) (fits_once ps ts qs p.1 f p.3) ∙ p.4

formats_pieces : (text : List ℕ) (args : Exprs) (ps qs : List Piece) (es : Exprs) (parts : List FormatPart)
    → Formats text args ps es → IsFormat text parts → Fits parts (types_of args) qs → ps ≡ qs
formats_pieces text args ps qs es parts h f g =
    let p : h.parts ≡ parts = one_format text h.parts parts h.format f in
    fits_once parts (types_of args) ps qs (subst (λ (z : List FormatPart). Fits z (types_of args) ps) p h.fits) g

formats_once : (text : List ℕ) (args : Exprs) (ps qs : List Piece) (es fs : Exprs) → Formats text args ps es → Formats text args qs fs
    → (ps ≡ qs) × (es ≡ fs)
formats_once text args ps qs es fs h k =
    let p : ps ≡ qs = formats_pieces text args ps qs es k.parts h k.format k.fits in
    (p, each_once (holes qs) args es fs (subst (λ (z : List Piece). SettleEach (holes z) args es) p h.arguments) k.arguments)

pub no_parts : (text : List ℕ) (args : Exprs) → ((qs : List FormatPart) → IsFormat text qs → ⊥) → (ps : List Piece) (es : Exprs)
    → Formats text args ps es → ⊥
no_parts text args none ps es h = none h.parts h.format

pub no_fit : (text : List ℕ) (args : List Value) (parts : List FormatPart) → IsFormat text parts
    → ((qs : List Piece) → Fits parts (arg_types args) qs → ⊥) → (ps : List Piece) (es : Exprs) → Formats text (view_exprs args) ps es → ⊥
no_fit text args parts f none ps es h =
    let p : h.parts ≡ parts = one_format text h.parts parts h.format f in
    none ps (subst (λ (z : List FormatPart). Fits z (arg_types args) ps) p
    (subst (λ (ts : List Ty). Fits h.parts ts ps) (types_are args) h.fits))

pub no_arguments : (text : List ℕ) (args : List Value) (parts : List FormatPart) (qs : List Piece) (whole : Ty) (asked : List Ty)
    (r : Refusal)
    → IsFormat text parts → Fits parts (arg_types args) qs → asked ≡ holes qs → FailsEach whole asked (view_exprs args) r
    → (ps : List Piece) (es : Exprs) → Formats text (view_exprs args) ps es → ⊥
no_arguments text args parts qs whole asked r f g e fail ps es h =
    let fit : Fits parts (types_of (view_exprs args)) qs = subst (λ (ts : List Ty). Fits parts ts qs) (sym (types_are args)) g in
    let p : ps ≡ qs = formats_pieces text (view_exprs args) ps qs es parts h f fit in
    each_fails whole asked (view_exprs args) es r fail
    (subst (λ (ts : List Ty). SettleEach ts (view_exprs args) es) (ap holes p ∙ sym e) h.arguments)

pub formats_so : (text : List ℕ) (args : List Value) (parts : List FormatPart) (ps : List Piece) (asked : List Ty) (es : Exprs)
    → IsFormat text parts → Fits parts (arg_types args) ps → asked ≡ holes ps → SettleEach asked (view_exprs args) es
    → Formats text (view_exprs args) ps es
formats_so text args parts ps asked es f g e h = record {
  parts = parts;
  format = f;
  fits = subst (λ (ts : List Ty). Fits parts ts ps) (sym (types_are args)) g;
  arguments = subst (λ (ts : List Ty). SettleEach ts (view_exprs args) es) e h;
}

-- ---- the types that pieces ask for

pub holes_more : (ps : List Piece) (p : Piece) → holes (ps ++ p ∷ []) ≡ holes ps ++ holes (p ∷ [])
holes_more [] p = refl
holes_more (piece.Chars t ∷ ps) p = holes_more ps p
holes_more (piece.Hole h ∷ ps) p =
    ap (λ ts. type_of_hole h ++ ts) (holes_more ps p) ∙ sym (append_assoc (type_of_hole h) (holes ps) (holes (p ∷ [])))

pub holes_next : (ps : List Piece) (i : ℕ) (p : Piece) → i < length ps → p ≡ get_or ps i p
    → holes (take (i + 1) ps) ≡ holes (take i ps) ++ holes (p ∷ [])
holes_next ps i p l is =
    ap holes (take_more ps i p l) ∙ holes_more (take i ps) (get_or ps i p) ∙ ap (λ z. holes (take i ps) ++ holes (z ∷ [])) (sym is)

exact_one : (t u : Ty) → ((n : ℕ) → u ≡ RefAdt n → ⊥) → Stands t u → t ≡ u
exact_one t u no_ref (inl e) = e
exact_one t u no_ref (inr v) = absurd (go t v)
  where
    go : (t : Ty) → IsVariantOf t u → ⊥
    go (RefPick n w) v = no_ref n v
    go _ v = v

exact_next : (ts us : List Ty) (u : Ty) → ((n : ℕ) → u ≡ RefAdt n → ⊥) → ((ts : List Ty) → AllStand ts us → ts ≡ us) → AllStand ts (u ∷ us)
    → ts ≡ u ∷ us
exact_next [] us u no_ref rest h = absurd h
exact_next (t ∷ ts) us u no_ref rest h = ap (λ z. z ∷ ts) (exact_one t u no_ref h.0) ∙ ap (λ zs. u ∷ zs) (rest ts h.1)

exact_hole : (h : Hole) (us ts : List Ty) → ((ts : List Ty) → AllStand ts us → ts ≡ us) → AllStand ts (type_of_hole h ++ us)
    → ts ≡ type_of_hole h ++ us
exact_hole (hole.Decimal kind.Byte) us ts rest s = exact_next ts us ty.Byte (λ n e. cc) rest s
exact_hole (hole.Decimal kind.Int) us ts rest s = exact_next ts us ty.Int (λ n e. cc) rest s
exact_hole (hole.Decimal kind.Big) us ts rest s = exact_next ts us ty.Big (λ n e. cc) rest s
exact_hole hole.Chars us ts rest s = exact_next ts us ty.Chars (λ n e. cc) rest s
exact_hole hole.Character us ts rest s = exact_next ts us ty.Int (λ n e. cc) rest s
exact_hole hole.Hexadecimal us ts rest s = exact_next ts us ty.Int (λ n e. cc) rest s
exact_hole hole.Error us ts rest s = rest ts s

exact : (ps : List Piece) (ts : List Ty) → AllStand ts (holes ps) → ts ≡ holes ps
exact [] [] h = refl
exact [] (t ∷ ts) h = absurd h
exact (piece.Chars t ∷ ps) ts h = exact ps ts h
exact (piece.Hole k ∷ ps) ts h = exact_hole k (holes ps) ts (λ us g. exact ps us g) h

-- ---- files

pub no_fd : (fd : Option ℕ) (file a b : Value) → ((n : ℕ) → fd ≡ Some n → ⊥) → a ≡ file → b ≡ file
    → FailsAsFile (view_expr file) fd (Clash (view_ty a.ty) (view_ty b.ty))
no_fd (Some n) file a b never e f = absurd (never n refl)
no_fd None file a b never e f =
    let p : view_ty file.ty ≡ type_of (view_expr file) = sym (ap type_of (view_expr-out file)) in
    ap (λ (v : Value). Clash (view_ty v.ty) (view_ty b.ty)) e ∙ ap (λ (v : Value). Clash (view_ty file.ty) (view_ty v.ty)) f
    ∙ ap (λ t. Clash t (view_ty file.ty)) p ∙ ap (λ t. Clash (type_of (view_expr file)) t) p

file_fails : (output : Output) (fd : Option ℕ) (which : Printed) (file : Optional) (r : Refusal) → FailsFile output fd r
    → PrintsTo output fd which file → ⊥
file_fails Print fd which file r h k = h
file_fails Sprint fd which file r h k = h
file_fails (Fprint e) None which file r h k = none-some k.1 k.3
file_fails (Fprint e) (Some n) which file r h k =
    let p : n ≡ k.1 = same_Some n k.1 k.3 in
    h.stands_not k.2 (subst (λ (i : ℕ). Settles (RefAdt i) e k.2) (sym p) k.4)

prints_to_once : (output : Output) (fd : Option ℕ) (w x : Printed) (f g : Optional) → PrintsTo output fd w f → PrintsTo output fd x g
    → (w ≡ x) × (f ≡ g)
prints_to_once Print fd w x f g h k = (h.0 ∙ sym k.0, h.1 ∙ sym k.1)
prints_to_once Sprint fd w x f g h k = (h.0 ∙ sym k.0, h.1 ∙ sym k.1)
prints_to_once (Fprint e) fd w x f g h k =
    let p : h.1 ≡ k.1 = same_Some h.1 k.1 (sym h.3 ∙ k.3) in
    let q : h.2 ≡ k.2 = settled_once (RefAdt k.1) e h.2 k.2 (subst (λ (i : ℕ). Settles (RefAdt i) e h.2) p h.4) k.4 in
    (h.0 ∙ sym k.0, h.5 ∙ ap Present q ∙ sym k.5)

-- ---- prints

pub print_none : (fd : Option ℕ) (output : Output) (instance : Expr) (text : List ℕ) (args : Exprs) (r : Refusal)
    → RefusesPrint fd output text args r → RefusesPrint fd output text args r × NoneIs (Prints fd output instance text args)
print_none fd output instance text args r (refusing.no_file h) =
    (refusing.no_file h, λ e k. file_fails output fd k.which k.file r h k.to)
print_none fd output instance text args r (refusing.no_format w f t none p) =
    (refusing.no_format w f t none p, λ e k. none k.pieces k.values k.formats)

pub one_print : (fd : Option ℕ) (output : Output) (instance : Expr) (text : List ℕ) (args : Exprs) (e f : Expr)
    → Prints fd output instance text args e → Prints fd output instance text args f → e ≡ f
one_print fd output instance text args e f h k =
    let p = prints_to_once output fd h.which k.which h.file k.file h.to k.to in
    let q = formats_once text args h.pieces k.pieces h.values k.values h.formats k.formats in
    h.gives
    ∙ ap (λ (w : Printed). Of (printed_type w) (tree.Print w instance h.file h.pieces h.values)) p.0
    ∙ ap (λ (z : Optional). Of (printed_type k.which) (tree.Print k.which instance z h.pieces h.values)) p.1
    ∙ ap (λ (z : List Piece). Of (printed_type k.which) (tree.Print k.which instance k.file z h.values)) q.0
    ∙ ap (λ (z : Exprs). Of (printed_type k.which) (tree.Print k.which instance k.file k.pieces z)) q.1
    ∙ sym k.gives

ref_of_fd : (n : ℕ) (t : Ty) → Stands t (RefAdt n) → IsRefOf n t
ref_of_fd n t (inl e) = subst (λ (z : Ty). IsRefOf n z) (sym e) refl
ref_of_fd n t (inr v) = go t v
  where
    go : (t : Ty) → IsVariantOf t (RefAdt n) → IsRefOf n t
    go (RefPick m w) v = let p : n ≡ m = cc in sym p
    go _ v = absurd v

sound_file : (m : Module) (vs : List Var) (output : Output) (fd : Option ℕ) (which : Printed) (file : Optional)
    → PrintsTo output fd which file
    → SoundMaybe m vs file → SoundFile m vs which file
sound_file m vs Print fd which file h s = rw (h.0, h.1) tt
sound_file m vs Sprint fd which file h s = rw (h.0, h.1) tt
sound_file m vs (Fprint e) fd which file h s =
    let p : SoundExpr m vs h.2 = subst (λ (z : Optional). SoundMaybe m vs z) h.5 s in
    rw (h.0, h.5) (p, (h.1, ref_of_fd h.1 (type_of h.2) (settled_stands (RefAdt h.1) e h.2 h.4)))

pub print_fits : (m : Module) (vs : List Var) (fd : Option ℕ) (output : Output) (instance : Expr) (text : List ℕ) (args : Exprs) (e : Expr)
    → IsSystem m (type_of instance) → Prints fd output instance text args e → IsFit m vs e
print_fits m vs fd output instance text args e system h =
    let s = each_stand (holes h.pieces) args h.values h.formats.arguments in
    subst (IsFit m vs) (sym h.gives)
    (λ parts. (parts.0, system, sound_file m vs output fd h.which h.file h.to parts.1, parts.2, exact h.pieces (types_of h.values) s, refl))
