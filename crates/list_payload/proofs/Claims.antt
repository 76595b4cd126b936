-- Demand 2's read-back, for everything that the writer takes: an encoded option list that decodes to options is written, read and listed
-- back as the same user data, options, fill and, byte for byte, the same encoded list.
-- Assumes nothing.
use mathlib.Core.Path.{◌≡◌, refl, sym, ap, ap₂, subst, ◌∙◌}
use mathlib.Core.Bool.{Bool, true, false, cond, ◌||◌}
use mathlib.Core.List.{List, [], ◌∷◌}
use mathlib.Core.Logic.{inl, inr}
use Prim.Native.Nat.{ℕ, suc, ◌+◌, ◌-◌, ◌≤◌}
use native.Mathlib.Omega.{arith}
use borrow.Author.Tests.{eq-eqb, eqb-true, leb-true}
use lib.Dec.{eqb, leb}
use lib.ListN.{length, drop}
use Rattle.number_octets.specs.Octets.{Octets, number, octets, part}
use Rattle.number_octets.proofs.Laws.{length-octets, number-octets}
use Rattle.number_offsets.specs.Offsets.{udp_header}
use Rattle.number_crc32c.specs.Crc.{crc_of}
use Rattle.number_crc32c.proofs.Laws.{crc_of-lt}
use Rattle.wire_nops.specs.declared.Strictness.{Strictness}
use Rattle.wire_step.specs.Kinds.{class_of, apc, frag}
use Rattle.wire_step.specs.declared.Class.TheVariants.{Fixed}
use Rattle.wire_step.proofs.Classes.{class-varying}
use Rattle.wire_options.specs.Walk.{Item, listed, items_in, walk_from, option_limit}
use Rattle.wire_datagram.specs.Reading.{reads, reading}
use Rattle.wire_reading.specs.Reading.{payload_limit, extent, apc_values, all_are, apc_of}
use Rattle.wire_reading.specs.declared.Apc.TheVariants.{Absent, Right, Wrong}
use Rattle.wire_reading.specs.declared.Verdict.TheVariants.{Read}
use Rattle.wire_reading.specs.Packet.{PacketReading as Reading}
use Rattle.list_entry.specs.Shape.{fields, raw, barred, shape_of}
use Rattle.list_entry.specs.Option.{longest_body, Shaped, ValidOption, total}
use Rattle.list_encoding.specs.Encoding.{given, decoded_list, encoded_list, Each as EachValid, Valid}
use Rattle.list_encoding.specs.Wire.{longest_short}
use Rattle.list_options.specs.Listing.{unworked, unworked_all, listing}
use Rattle.list_encoding.proofs.Laws.{encode-decode}
use Rattle.list_payload.specs.Back.{has_apc, apc_back}
use Rattle.list_payload.specs.Payload.{worked, worked_all, standing, list_of, Datagram, size_of, payload_of}
use Rattle.list_payload.proofs.Wires.{Wired, Each}
use Rattle.list_payload.proofs.ReadBack.{Takes, back_of, same_count, list-there, walk-list, user-there, user-size, reading-back}

-- ---- APC

-- an option that is no APC is written as it is
not-worked : (user : List ℕ) (item : Item) → eqb item.kind apc ≡ false → worked user item ≡ item
unfolding worked
not-worked user item e = simp e

-- an APC is written with the CRC
apc-worked : (user : List ℕ) (item : Item) → eqb item.kind apc ≡ true → worked user item ≡ record { kind = apc; body = octets 4 (crc_of user) }
unfolding worked
apc-worked user item e = simp e

all-worked : (user : List ℕ) (items : List Item) → all_are (crc_of user) (apc_values (worked_all user items)) ≡ true
unfolding all_are apc_values worked_all worked
all-worked user [] = refl
all-worked user (item ∷ items) = go (eqb item.kind apc) refl (all-worked user items)
  where
    value : number (octets 4 (crc_of user)) ≡ crc_of user
    value = number-octets 4 (crc_of user) (crc_of-lt user)

    go : (t : Bool) → eqb item.kind apc ≡ t → all_are (crc_of user) (apc_values (worked_all user items)) ≡ true
        → all_are (crc_of user) (apc_values (cond t (record { kind = apc; body = octets 4 (crc_of user) }) item ∷ worked_all user items)) ≡ true
    go true e ih = simp (eq-eqb (number (octets 4 (crc_of user))) (crc_of user) value) ih
    go false e ih = simp e ih

-- whether values are there
abbrev any_of : List ℕ → Bool
any_of [] = false
any_of (v ∷ vs) = true

any-worked : (user : List ℕ) (items : List Item) → any_of (apc_values (worked_all user items)) ≡ has_apc items
unfolding apc_values worked_all worked has_apc
any-worked user [] = refl
any-worked user (item ∷ items) = go (eqb item.kind apc) refl (any-worked user items)
  where
    more : Item → Bool
    more x = any_of (apc_values (x ∷ worked_all user items))

    go : (t : Bool) → eqb item.kind apc ≡ t → any_of (apc_values (worked_all user items)) ≡ has_apc items
        → any_of (apc_values (worked user item ∷ worked_all user items)) ≡ (t || has_apc items)
    go true e ih = ap more (apc-worked user item e)
    go false e ih = ap more (not-worked user item e) ∙ simp e ih

-- none where no value is there, and right where all are
apc-by : (user vs : List ℕ) → all_are (crc_of user) vs ≡ true → apc_of user vs ≡ cond (any_of vs) Right Absent
apc-by user [] e = refl
apc-by user (v ∷ vs) e = ap (λ (t : Bool). cond t Right Wrong) e

apc-there : (user : List ℕ) (items : List Item) → apc_of user (apc_values (worked_all user items)) ≡ apc_back items
apc-there user items =
    apc-by user (apc_values (worked_all user items)) (all-worked user items) ∙ ap (λ (t : Bool). cond t Right Absent) (any-worked user items)

-- ---- options of an encoded list can be written

fixed-wired : (item : Item) (n a : ℕ) → item.kind ≡ n → class_of n ≡ Fixed a a → length item.body + 2 ≡ a → a ≤ longest_short → (n ≡ frag → ⊥) → Wired item
fixed-wired item n a k c h small f = record {
  no_frag = λ e. f (sym k ∙ e);
  class = inr (a, ap class_of k ∙ c, h, small);
}

raw-wired : (item : Item) → 9 ≤ item.kind → item.kind ≤ 191 → length item.body ≤ longest_body → Wired item
raw-wired item low high h = record {
  no_frag = λ e. omega arith;
  class = inl (class-varying item.kind low high, omega arith);
}

pub valid-wired : (user : List ℕ) (item : Item) → ValidOption item → Wired (worked user item)
unfolding shape_of class_of total
valid-wired user item v =
    go (eqb k 2) (eqb k 4) (eqb k 5) (eqb k 6) (eqb k 7) (eqb k 8) (leb 9 k) (leb k 191) refl refl refl refl refl refl refl refl v.shaped
  where
    k : ℕ
    k = item.kind

    plain : (n a : ℕ) → eqb k 2 ≡ false → eqb k n ≡ true → class_of n ≡ Fixed a a → length item.body + 2 ≡ a → a ≤ longest_short → (n ≡ frag → ⊥)
        → Wired (worked user item)
    plain n a e q c h small f = subst Wired (sym (not-worked user item e)) (fixed-wired item n a (eqb-true k n q) c h small f)

    go : (a b c d e f g h : Bool) → eqb k 2 ≡ a → eqb k 4 ≡ b → eqb k 5 ≡ c → eqb k 6 ≡ d → eqb k 7 ≡ e → eqb k 8 ≡ f → leb 9 k ≡ g → leb k 191 ≡ h
        → Shaped (cond a (fields []) (cond b (fields (2 ∷ [])) (cond c (fields (2 ∷ 1 ∷ [])) (cond d (fields (4 ∷ [])) (cond e (fields (4 ∷ []))
        (cond f (fields (4 ∷ 4 ∷ [])) (cond g (cond h raw barred) barred))))))) item.body
        → Wired (worked user item)
    go true b c d e f g h p2 p4 p5 p6 p7 p8 p9 p191 s =
        subst Wired (sym (apc-worked user item p2))
        (fixed-wired (record { kind = apc; body = octets 4 (crc_of user) }) apc 6 refl refl (ap (λ (n : ℕ). n + 2) (length-octets 4 (crc_of user)))
        (omega arith) (λ z. omega arith))
    go false true c d e f g h p2 p4 p5 p6 p7 p8 p9 p191 s = plain 4 4 p2 p4 refl (omega arith) (omega arith) (λ z. omega arith)
    go false false true d e f g h p2 p4 p5 p6 p7 p8 p9 p191 s = plain 5 5 p2 p5 refl (omega arith) (omega arith) (λ z. omega arith)
    go false false false true e f g h p2 p4 p5 p6 p7 p8 p9 p191 s = plain 6 6 p2 p6 refl (omega arith) (omega arith) (λ z. omega arith)
    go false false false false true f g h p2 p4 p5 p6 p7 p8 p9 p191 s = plain 7 6 p2 p7 refl (omega arith) (omega arith) (λ z. omega arith)
    go false false false false false true g h p2 p4 p5 p6 p7 p8 p9 p191 s = plain 8 10 p2 p8 refl (omega arith) (omega arith) (λ z. omega arith)
    go false false false false false false true true p2 p4 p5 p6 p7 p8 p9 p191 s =
        subst Wired (sym (not-worked user item p2)) (raw-wired item (leb-true 9 k p9) (leb-true k 191 p191) s)
    go false false false false false false true false p2 p4 p5 p6 p7 p8 p9 p191 s = absurd s
    go false false false false false false false h p2 p4 p5 p6 p7 p8 p9 p191 s = absurd s

pub all-wired : (user : List ℕ) (items : List Item) → EachValid items → Each (worked_all user items)
unfolding worked_all
all-wired user [] v = tt
all-wired user (item ∷ items) v = (valid-wired user item v.0, all-wired user items v.1)

-- ---- listing gives the encoded list back

no_bytes : (l : List ℕ) → length l ≡ 0 → l ≡ []
no_bytes [] e = refl
no_bytes (x ∷ l) e = absurd (omega arith)

apc-empty : (item : Item) → ValidOption item → item.kind ≡ apc → item.body ≡ []
unfolding shape_of total
apc-empty item v e = no_bytes item.body (subst (λ (k : ℕ). Shaped (shape_of k) item.body) e v.shaped)

unworked-worked : (user : List ℕ) (item : Item) → ValidOption item → unworked (worked user item) ≡ item
unfolding unworked worked
unworked-worked user item v = go (eqb item.kind apc) refl
  where
    go : (t : Bool) → eqb item.kind apc ≡ t
        → unworked (cond t (record { kind = apc; body = octets 4 (crc_of user) }) item) ≡ item
    go true e = let k = eqb-true item.kind apc e in λ i. record { kind = (sym k) i; body = (sym (apc-empty item v k)) i }
    go false e = simp e

pub all-unworked : (user : List ℕ) (items : List Item) → EachValid items → unworked_all (worked_all user items) ≡ items
unfolding unworked_all worked_all
all-unworked user [] v = refl
all-unworked user (item ∷ items) v = ap₂ ◌∷◌ (unworked-worked user item v.0) (all-unworked user items v.1)

-- ---- the claim

-- the options as they stand in a payload behind its option checksum, at the place that a reading names
abbrev pub list_in : List ℕ → Reading → List ℕ
list_in payload r = drop r.options.from.0 payload

-- options where they stand are the options
standing-items : (items : List Item) (fill : ℕ) → items_in (standing items fill) ≡ items
standing-items [] fill = refl
standing-items (item ∷ items) fill = ap (λ (x : List Item). item ∷ x) (standing-items items fill)

standing-count : (items : List Item) (fill : ℕ) → length (standing items fill) ≡ length items
standing-count [] fill = refl
standing-count (item ∷ items) fill = ap suc (standing-count items fill)

-- what was written is read and listed back, the same in plain and in strict reading
pub record ReadBack (d : Datagram) (list : List ℕ) (r : Reading) : Type 0 where
  pub is_read : (how : Strictness) → reading how (payload_of d) d.source d.destination ≡ reads r
  pub verdict : r.verdict ≡ Read
  pub user : r.user ≡ extent udp_header (size_of d)
  pub bytes : part udp_header (length d.user) (payload_of d) ≡ d.user
  pub options : walk_from option_limit 0 (list_in (payload_of d) r) ≡ listed (standing (worked_all d.user d.items) d.fill) d.fill
  pub count : r.count ≡ length d.items
  pub fill : r.fill ≡ d.fill
  pub same_apc : r.apc ≡ apc_back d.items
  pub same_list : listing (walk_from option_limit 0 (list_in (payload_of d) r)) ≡ list

pub read_back : (d : Datagram) (list : List ℕ) → Octets list → decoded_list list ≡ given d.items
    → length d.source ≡ 4 → length d.destination ≡ 4 → length (payload_of d) ≤ payload_limit → ReadBack d list (back_of d)
unfolding listing
read_back d list oct decoded s t fits =
    let both = encode-decode list d.items oct decoded in
    let valid : Valid d.items = both.1 in
    let items : List Item = worked_all d.user d.items in
    let wired : Each items = all-wired d.user d.items valid.each in
    let takes : Takes d = record { source = s; destination = t; few = valid.few; each = wired; fits = fits } in
    let there : list_in (payload_of d) (back_of d) ≡ list_of d.user d.items d.fill = list-there d in
    let walk : walk_from option_limit 0 (list_in (payload_of d) (back_of d)) ≡ listed (standing items d.fill) d.fill =
    ap (walk_from option_limit 0) there ∙ walk-list d wired (omega (arith, same_count d.user d.items, valid.few)) in
    let users : part udp_header (size_of d - udp_header) (payload_of d) ≡ d.user = user-there d in
    record {
      is_read = λ how. reading-back how d takes;
      verdict = refl;
      user = refl;
      bytes = ap (λ (n : ℕ). part udp_header n (payload_of d)) (user-size d) ∙ users;
      options = walk;
      count = standing-count items d.fill ∙ same_count d.user d.items;
      fill = refl;
      same_apc = ap₂ (λ (u : List ℕ) (x : List Item). apc_of u (apc_values x)) users (standing-items items d.fill) ∙ apc-there d.user d.items;
      same_list = ap listing walk ∙ ap (λ (x : List Item). encoded_list (unworked_all x)) (standing-items items d.fill) ∙ ap encoded_list (all-unworked d.user d.items valid.each) ∙ both.0;
    }
