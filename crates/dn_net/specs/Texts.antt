-- Addresses and networks as text: `A.B.C.D` and `A.B.C.D/LEN`.
use Rattle.std.specs.Prelude.{ℕ, ◌/◌, ◌%◌, ◌^◌, List, ◌++◌, codes}
use Rattle.std.specs.Fmt.{decimal}

-- the four bytes of an address, in decimal with points between them
unfoldable pub address_text : ℕ → List ℕ
address_text address =
    decimal (address / 2 ^ 24) ++ codes "." ++ decimal (address / 2 ^ 16 % 2 ^ 8) ++ codes "."
    ++ decimal (address / 2 ^ 8 % 2 ^ 8) ++ codes "." ++ decimal (address % 2 ^ 8)

-- a network: its address and the length of its mask
unfoldable pub network_text : ℕ → ℕ → List ℕ
network_text address len = address_text address ++ codes "/" ++ decimal len
