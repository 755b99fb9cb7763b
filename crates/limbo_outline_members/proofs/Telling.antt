-- What is told of module types and of their functions.
use Rattle.std.proofs.Common.{◌≡◌, ◌+◌, ◌++◌, ◌∷◌, [], ℕ, true, false, List, Option, Some, Box, Global, sym, subst}
use Rattle.limbo_types.specs.Types.{FnTy}
use Rattle.limbo_types.specs.View.{view_fn}
use Rattle.limbo_typed.specs.Typed.{Interface, Signature}
use Rattle.limbo_entries.specs.Entries.{Entry, IsEntry}
use Rattle.limbo_headers.specs.declared.header.Heading.TheVariants as heading
use Rattle.limbo_headers.specs.declared.header.Header as code_header
use Rattle.limbo_headers.specs.Headers.{Heads, IsHeader}
use Rattle.limbo_meanings.specs.Kinds.{has_kind}
use Rattle.limbo_meanings.proofs.Lists.{table_yes, table_no}
use Rattle.limbo_exports.specs.Exports.{is_called}
use Rattle.limbo_outline_members.specs.Members.{IsSignature, SignaturesTo, SignaturesAre, IsInterface, InterfacesTo}

module _ (es : List Entry) (m : ℕ) (system : Option ℕ) where
  pub signature_yes : (a k : ℕ) (e : Entry) (b : Box code_header.Header Global) (xs : List Signature) (s : Signature) → Heads es m e
      (heading.Function b)
      → IsEntry es k e → is_called system (Some a) e ≡ true → s.name ≡ e.row.name → s.of ≡ view_fn b.value.of → SignaturesTo es m system a
      k xs
      → SignaturesTo es m system a (k + 1) (xs ++ (s ∷ []))
  signature_yes a k e b xs s h i t n o listed =
      table_yes (is_called system (Some a)) (IsSignature es m) es k xs e s listed i t
      (record {
        of = h.0;
        is = h.1;
        named = n;
        self_first = b.value.takes_self;
        header = subst (λ (z : FnTy). IsHeader es m e.within h.0 z b.value.takes_self) (sym o) h.2;
      })

  pub signature_no : (a k : ℕ) (e : Entry) (xs : List Signature) → IsEntry es k e → is_called system (Some a) e ≡ false → SignaturesTo es
      m system a k xs
      → SignaturesTo es m system a (k + 1) xs
  signature_no a k e xs i t listed = table_no (is_called system (Some a)) (IsSignature es m) es k xs e listed i t

  pub interface_yes : (k : ℕ) (e : Entry) (xs : List Interface) (x : Interface) → IsEntry es k e → has_kind es m 4 e ≡ true → x.name ≡
      e.row.name
      → SignaturesAre es m system k x.functions → InterfacesTo es m system k xs → InterfacesTo es m system (k + 1) (xs ++ (x ∷ []))
  interface_yes k e xs x i t n f listed =
      table_yes (has_kind es m 4) (IsInterface es m system) es k xs e x listed i t (record { named = n; functions = f })

  pub interface_no : (k : ℕ) (e : Entry) (xs : List Interface) → IsEntry es k e → has_kind es m 4 e ≡ false → InterfacesTo es m system k xs
      → InterfacesTo es m system (k + 1) xs
  interface_no k e xs i t listed = table_no (has_kind es m 4) (IsInterface es m system) es k xs e listed i t
