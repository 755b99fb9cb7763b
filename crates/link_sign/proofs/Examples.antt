-- Texts of small functions, computed.
use Rattle.std.proofs.Common.{◌≡◌, [], ◌∷◌, codes, refl}
use Rattle.std.specs.Fmt.{digits}
use lib.Utf8.{encode}
use Rattle.limbo_types.specs.Types.{Byte, Int, Big, Chars, Nothing, ArrayOf, ListOf, ChanOf, Tuple, Adt, RefAdt, RefPick, Module, NoTys, MoreTys}
use Rattle.limbo_layout.specs.Adts.{Def}
use Rattle.link_sign.specs.Computed.{text_of}

-- fn(x: int): int
of_int : text_of [] [] (record { args = Int ∷ []; answer = Int }) ≡ codes "f(i)i"
unfolding text_of
of_int = refl

-- fn(n: ref N): int, with N: adt { v: int; next: ref N; }
node : Def
node = record { name = codes "N"; fields = record { name = codes "v"; ty = Int } ∷ record { name = codes "next"; ty = RefAdt 0 } ∷ []; picks = [] }

of_node : text_of (node ∷ []) [] (record { args = RefAdt 0 ∷ []; answer = Int }) ≡ codes "f(Ra{v:i;next:R@0;;})i"
unfolding text_of node digits encode
of_node = refl

-- each form of type: a pick adt with common fields, a ref of its second variant, a module
shape : Def
shape = record {
  name = codes "Shape";
  fields = record { name = codes "at"; ty = Tuple (MoreTys Int (MoreTys Int NoTys)) } ∷ [];
  picks =
      record { name = codes "Dot"; fields = [] }
      ∷ record { name = codes "Line"; fields = record { name = codes "to"; ty = Tuple (MoreTys Big (MoreTys Chars NoTys)) } ∷ record { name = codes "of"; ty = Adt 0 } ∷ [] }
      ∷ [];
}

of_shapes : text_of (node ∷ shape ∷ []) (codes "Sys" ∷ codes "Draw" ∷ [])
    (record { args = RefPick 1 1 ∷ ArrayOf Byte ∷ ListOf (ChanOf Chars) ∷ Module 1 ∷ Tuple NoTys ∷ RefAdt 0 ∷ []; answer = Nothing })
    ≡ codes "f(V1;a{at:(i,i);|Dot{}|Line{to:(B,s);of:a{v:i;next:R@1;;};}},Ab,LCs,MDraw;,(),R@1;)n"
unfolding text_of node shape digits encode
of_shapes = refl
