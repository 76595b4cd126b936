-- The datagram is laid field by field, with the sum of those fields. Assumes nothing.
use mathlib.Core.Path.{◌≡◌, refl, ap, ap₂, ◌∙◌}
use mathlib.Core.Bool.{false}
use mathlib.Core.List.{List, [], ◌∷◌, ◌++◌, append_assoc}
use Prim.Native.Nat.{ℕ, ◌+◌, ◌≤◌}
use native.Mathlib.Omega.{arith}
use lib.ListN.{length, length-append}
use Rattle.number_octets.specs.Octets.{octets, overlay}
use Rattle.number_octets.proofs.Laws.{length-octets}
use Rattle.number_offsets.specs.Offsets.{udp_header}
use Rattle.number_checksum.specs.Checksum.{word_sum}
use Rattle.number_checksum.proofs.Laws.{word_sum-word}
use Rattle.list_payload.specs.Payload.{Datagram, size_of, front_of, datagram_with}
use Rattle.list_wire.specs.Parts.{Laid}
use Rattle.list_wire.proofs.Laying.{laid-append, laid-length, laid_by}

pub front-size : (d : Datagram) → length (front_of d) ≡ 6
front-size d =
    let a : List ℕ = octets 2 d.source_port in
    let b : List ℕ = octets 2 d.destination_port in
    let c : List ℕ = octets 2 (size_of d) in
    omega (
      arith,
      length-append a (b ++ c),
      length-append b c,
      length-octets 2 d.source_port,
      length-octets 2 d.destination_port,
      length-octets 2 (size_of d),
    )

pub datagram-size : (d : Datagram) (sum : List ℕ) → length sum ≡ 2 → length (datagram_with d sum) ≡ 8 + length d.user
datagram-size d sum two =
    omega (arith, front-size d, length-append (front_of d) (sum ++ d.user), length-append sum d.user)

-- the fields of the header one behind the other, and the data
pub datagram-laid : (t a b c z v : List ℕ) (d : Datagram) (checksum : ℕ) → 8 + length d.user ≤ length t → a ≡ overlay t 0 (octets 2 d.source_port)
    → b ≡ overlay a 2 (octets 2 d.destination_port) → c ≡ overlay b 4 (octets 2 (8 + length d.user)) → z ≡ overlay c 6 (octets 2 checksum)
    → v ≡ overlay z 8 d.user → Laid t 0 (datagram_with d (octets 2 checksum)) v (8 + length d.user)
unfolding udp_header
datagram-laid t a b c z v d checksum fits ea eb ec ez ev =
    let n : ℕ = 8 + length d.user in
    let A : List ℕ = octets 2 d.source_port in
    let B : List ℕ = octets 2 d.destination_port in
    let C : List ℕ = octets 2 n in
    let la : length A ≡ 2 = length-octets 2 d.source_port in
    let lb : length B ≡ 2 = length-octets 2 d.destination_port in
    let lc : length C ≡ 2 = length-octets 2 n in
    let pa : Laid t 0 A a 2 = laid_by 2 ea la in
    let pb : Laid a 2 B b 4 = laid_by 2 eb lb in
    let pc : Laid b 4 C c 6 = laid_by 2 ec lc in
    let Z : List ℕ = octets 2 checksum in
    let lz : length Z ≡ 2 = length-octets 2 checksum in
    let pz : Laid c 6 Z z 8 = laid_by 2 ez lz in
    let pv : Laid z 8 d.user v n = laid_by (length d.user) ev refl in
    let sa : length a ≡ length t = laid-length pa (omega arith) in
    let sb : length b ≡ length t = laid-length pb (omega arith) ∙ sa in
    let sc : length c ≡ length t = laid-length pc (omega arith) ∙ sb in
    let bc : length (B ++ C) ≡ 4 = length-append B C ∙ ap₂ ◌+◌ lb lc in
    let abc : length (A ++ (B ++ C)) ≡ 6 = length-append A (B ++ C) ∙ ap₂ ◌+◌ la bc in
    let zu : length (Z ++ d.user) ≡ 2 + length d.user = length-append Z d.user ∙ omega arith in
    let whole : length ((A ++ (B ++ C)) ++ (Z ++ d.user)) ≡ n = length-append (A ++ (B ++ C)) (Z ++ d.user) ∙ omega arith in
    laid-append (laid-append pa (laid-append pb pc (omega arith)) (omega arith)) (laid-append pz pv (omega arith)) (omega arith)

two-zeros : (l : List ℕ) → word_sum false (0 ∷ 0 ∷ l) ≡ word_sum false l
unfolding word_sum
two-zeros l = omega arith

-- the words of the header, and the data behind them
pub header-sum : (d : Datagram) → d.source_port ≤ 65535 → d.destination_port ≤ 65535 → size_of d ≤ 65535
    → word_sum false (datagram_with d (0 ∷ 0 ∷ [])) ≡ d.source_port + d.destination_port + size_of d + word_sum false d.user
header-sum d hs hd hn =
    let A : List ℕ = octets 2 d.source_port in
    let B : List ℕ = octets 2 d.destination_port in
    let C : List ℕ = octets 2 (size_of d) in
    let rest : List ℕ = 0 ∷ 0 ∷ d.user in
    let laid : (A ++ (B ++ C)) ++ rest ≡ A ++ (B ++ (C ++ rest)) = simp append_assoc in
    ap (word_sum false) laid
    ∙ omega (
      arith,
      word_sum-word d.source_port (B ++ (C ++ rest)) hs,
      word_sum-word d.destination_port (C ++ rest) hd,
      word_sum-word (size_of d) rest hn,
      two-zeros d.user,
    )
