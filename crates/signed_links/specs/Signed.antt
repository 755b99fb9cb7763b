-- The texts of the types of the functions that objects link to, and that the signatures are those of these texts.
use Rattle.std.specs.Prelude.{ℕ, ◌≡◌, List, [], ◌∷◌, Some, codes, map}
use Rattle.dis_objects.specs.Objects.{sys_imports, init_links}
use Rattle.link_sign.specs.Signature.{fold}

-- The functions of Sys with the texts of their types, in the order of their declaration (sys(2)), the three that are built in last: these
-- take any arguments behind a format, which the text marks by `*`.
pub record Typed : Type 0 where
  pub name : List ℕ
  pub text : List ℕ

abbrev pub typed : (name text : List ℕ) → Typed
typed name text = record { name = name; text = text }

abbrev pub sys_types : List Typed
sys_types =
    typed (codes "open") (codes "f(s,i)Ra{fd:i;}") ∷ typed (codes "create") (codes "f(s,i,i)Ra{fd:i;}")
    ∷ typed (codes "fildes") (codes "f(i)Ra{fd:i;}") ∷ typed (codes "read") (codes "f(Ra{fd:i;},Ab,i)i")
    ∷ typed (codes "write") (codes "f(Ra{fd:i;},Ab,i)i") ∷ typed (codes "seek") (codes "f(Ra{fd:i;},B,i)B")
    ∷ typed (codes "stat") (codes
    "f(s)(i,a{name:s;uid:s;gid:s;muid:s;qid:a{path:B;vers:i;qtype:i;};mode:i;atime:i;mtime:i;length:B;dtype:i;dev:i;})")
    ∷ typed (codes "fstat") (codes
    "f(Ra{fd:i;})(i,a{name:s;uid:s;gid:s;muid:s;qid:a{path:B;vers:i;qtype:i;};mode:i;atime:i;mtime:i;length:B;dtype:i;dev:i;})")
    ∷ typed (codes "dirread") (codes
    "f(Ra{fd:i;})(i,Aa{name:s;uid:s;gid:s;muid:s;qid:a{path:B;vers:i;qtype:i;};mode:i;atime:i;mtime:i;length:B;dtype:i;dev:i;})")
    ∷ typed (codes "remove") (codes "f(s)i") ∷ typed (codes "bind") (codes "f(s,s,i)i") ∷ typed (codes "unmount") (codes "f(s,s)i")
    ∷ typed (codes "chdir") (codes "f(s)i") ∷ typed (codes "pctl") (codes "f(i,Li)i") ∷ typed (codes "pipe") (codes "f(ARa{fd:i;})i")
    ∷ typed (codes "tokenize") (codes "f(s,s)(i,Ls)") ∷ typed (codes "print") (codes "f(s,*)i")
    ∷ typed (codes "fprint") (codes "f(Ra{fd:i;},s,*)i") ∷ typed (codes "sprint") (codes "f(s,*)s") ∷ []

-- `init: fn(ctxt: ref Draw->Context, args: list of string)`
abbrev pub init_text : List ℕ
init_text = codes "f(Ra{unused:i;},Ls)n"

-- The functions that an object imports are these, each with what its type's text folds to.
pub record ImportsAre (types : List Typed) : Type 0 where
  pub names : map (λ i. i.name) sys_imports ≡ map (λ t. t.name) types
  pub signs : map (λ i. i.sign) sys_imports ≡ map (λ t. fold t.text) types

abbrev pub ImportsSigned : Type 0
ImportsSigned = ImportsAre sys_types

-- The function that it offers, whichever number it has, is `init`.
abbrev pub LinksSigned : Type 0
LinksSigned = (n : ℕ) → map (λ l. l.sign) (init_links (Some n)) ≡ fold init_text ∷ []
