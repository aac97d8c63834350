-- The two halves that the private functions write of a field (SCOPE, W2).
--     opening       its name and address
--     attributes    what stands behind the address
use Rattle.std.specs.Prelude.{ℕ, Bool, List, ◌++◌}
use Rattle.letters.specs.Base64.{encode}
use Rattle.keylines.specs.Lines.{lines}
use Rattle.writer.specs.Writing.{addr_text, key_text, preference}

-- W2: the first half of a field
unfoldable pub opening : List ℕ → List ℕ → List ℕ
opening name address = name ++ (addr_text ++ address)

-- W2: the second half of a field
unfoldable pub attributes : Bool → List ℕ → List ℕ
attributes is_mutual key = preference is_mutual ++ (key_text ++ lines (encode key))
