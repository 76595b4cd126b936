-- What is read of an encoded list is what goes on the wire: an option's fields have its body's bytes, and options laid one behind the other are
-- the wires of the list, of the size that the check gives. Assumes nothing.
use mathlib.Core.Path.{◌≡◌, refl, sym, ap, ap₂, ◌∙◌}
use mathlib.Core.Bool.{Bool, true, false, cond}
use mathlib.Core.List.{List, [], ◌∷◌, ◌++◌, append_assoc}
use Prim.Native.Nat.{ℕ, zero, suc, ◌+◌, ◌-◌, ◌≤◌, ◌<◌}
use native.Mathlib.Omega.{arith}
use borrow.Author.Tests.{ne_eqb, eqb-true}
use lib.Dec.{eqb, lit≤}
use lib.ListN.{length, take, drop, get_or, length-append, length-drop, take-append-drop}
use lib.Seq.{length-take-le, take_all}
use Rattle.number_octets.specs.Octets.{Octets, number, octets, part}
use Rattle.number_octets.proofs.Laws.{length-octets, octets-number, part_bytes}
use Rattle.number_crc32c.specs.Crc.{crc_of}
use Rattle.wire_step.specs.Kinds.{apc}
use Rattle.wire_options.specs.Walk.{Item, option_limit}
use Rattle.list_entry.specs.Shape.{fields, raw, shape_of}
use Rattle.list_entry.specs.Option.{Read, got, failed, and_then, read_as, read_number, read_option, item_of, total}
use Rattle.list_encoding.specs.Encoding.{given, read_options, decoded_list}
use Rattle.list_entry.specs.Answer.{values}
use Rattle.list_encoding.specs.Wire.{whole_length, crc_width, body_on_wire, option_size, wire_size, widths_of, fields_on_wire}
use Rattle.list_entry.proofs.Parts.{then-got, as-got}
use Rattle.list_encoding.proofs.Laws.{end-got}
use Rattle.list_entry.proofs.Shapes.{shape-cases, shape-token}
use Rattle.list_entry.proofs.Numbers.{bytes_drop}
use Rattle.list_entry.proofs.Laws.{option-read}
use Rattle.list_entry.proofs.Places.{ValueAt}
use Rattle.list_entry.proofs.Entered.{FieldsAt, BodyAt}
use Rattle.list_payload.specs.Payload.{wire_of, worked, worked_all, wires}
use Rattle.list_wire.specs.Parts.{Laid, field_bytes, field_body, worked_by, wire_read, left_behind, wires_read, wires_counted, wires_listed, apc_read, apcs_read}
use Rattle.list_wire.proofs.Laying.{wire-length, laid-append, behind-room}

-- ---- the fields of an option

bytes-again : (width : ℕ) (b : List ℕ) → length b ≡ width → Octets b → b ≡ octets width (number b)
bytes-again width b e h = sym (octets-number b h) ∙ ap (λ (n : ℕ). octets n (number b)) e

front_bytes : (n : ℕ) (l : List ℕ) → Octets l → Octets (take n l)
front_bytes n l h = part_bytes 0 n l h

-- at most two fields say the whole body
field-body : (widths body : List ℕ) → length widths ≤ 2 → length body ≡ total widths → Octets body
    → body ≡ field_bytes widths (get_or (values widths body) 0 0) (get_or (values widths body) 1 0)
unfolding values total
field-body [] [] few e h = refl
field-body [] (b ∷ body) few e h = absurd (omega arith)
field-body (w ∷ []) body few e h =
    let long : length body ≡ w = omega arith in
    let all : take w body ≡ body = take_all w body (omega arith) in
    bytes-again w body long h ∙ ap (λ (b : List ℕ). octets w (number b)) (sym all)
field-body (w ∷ v ∷ []) body few e h =
    let r : List ℕ = drop w body in
    let first : length (take w body) ≡ w = length-take-le w body (omega arith) in
    let second : length r ≡ v = length-drop w body ∙ omega arith in
    let all : take v r ≡ r = take_all v r (omega arith) in
    sym (take-append-drop w body)
    ∙ ap₂ ◌++◌ (bytes-again w (take w body) first (front_bytes w body h))
    (bytes-again v r second (bytes_drop w body h) ∙ ap (λ (b : List ℕ). octets v (number b)) (sym all))
field-body (w ∷ v ∷ x ∷ widths) body few e h = absurd (omega arith)

shape-few : (kind : ℕ) → length (widths_of (shape_of kind)) ≤ 2
shape-few kind =
    shape-cases kind (λ shape. length (widths_of shape) ≤ 2) (λ e. lit≤ tt) (λ e. lit≤ tt) (λ e. lit≤ tt) (λ e. lit≤ tt) (λ e. lit≤ tt) (λ e. lit≤ tt)
    (λ g h. lit≤ tt) (lit≤ tt)

item-named : (item : Item) (kind : ℕ) → item.kind ≡ kind → item ≡ item_of kind item.body
item-named item kind e i = record { kind = e i; body = item.body }

worked-named : (crc kind : ℕ) (body : List ℕ) → worked_by crc (item_of kind body) ≡ item_of kind (cond (eqb kind apc) (octets 4 crc) body)
unfolding worked_by
worked-named crc kind body = go (eqb kind apc) refl
  where
    go : (t : Bool) → eqb kind apc ≡ t → cond t (item_of apc (octets 4 crc)) (item_of kind body) ≡ item_of kind (cond t (octets 4 crc) body)
    go true e = ap (λ (k : ℕ). item_of k (octets 4 crc)) (sym (eqb-true kind apc e))
    go false e = refl

module _ (crc : ℕ) {s : List ℕ} {from : ℕ} (h : Octets s) where
  pub fields-worked : {kind first second next : ℕ} (f : FieldsAt s from kind first second next)
      → worked_by crc f.item ≡ item_of kind (field_body kind first second crc)
  unfolding field_body
  fields-worked {kind} {first} {second} {next} f =
      let item : Item = f.item in
      let body : List ℕ = item.body in
      let widths : List ℕ = f.widths in
      let same : shape_of item.kind ≡ fields widths = ap shape_of f.same ∙ f.shape in
      let long : length body ≡ total widths = rw same at f.there.shaped in
      let wide : widths_of (shape_of kind) ≡ widths = ap widths_of f.shape in
      let few : length widths ≤ 2 = rw wide at (shape-few kind) in
      let bytes : Octets body = (option-read (drop from s) item (drop next s) (bytes_drop from s h) f.there.reads).valid.bytes in
      let is : body ≡ field_bytes (widths_of (shape_of kind)) first second =
      field-body widths body few long bytes
      ∙ ap₂ (field_bytes widths) (sym f.one) (sym f.two) ∙ ap (λ (w : List ℕ). field_bytes w first second) (sym wide) in
      ap (worked_by crc) (item-named item kind f.same) ∙ worked-named crc kind body
      ∙ ap (λ (b : List ℕ). item_of kind (cond (eqb kind apc) (octets 4 crc) b)) is

-- a raw body, as it stands in the list
pub record Found (crc : ℕ) (s : List ℕ) (item : Item) (kind start next : ℕ) : Type 0 where
  pub before : start ≤ next
  pub whole : worked_by crc item ≡ item_of kind (part start (next - start) s)
  pub long : length (part start (next - start) s) ≡ length item.body
  pub small : length item.body ≤ 65531

pub body-worked : (crc : ℕ) {s : List ℕ} {from kind start size next : ℕ} (b : BodyAt s from kind start size next) → Found crc s b.item kind start next
unfolding shape_of
body-worked crc {s} {from} {kind} {start} {size} {next} b =
    let item : Item = b.item in
    let same : shape_of item.kind ≡ raw = ap shape_of b.same ∙ b.shape in
    let bytes = b.there.bytes same in
    let cut : next - start ≡ length item.body = omega (arith, bytes.0, b.begins) in
    let there : part start (next - start) s ≡ item.body = ap₂ (λ (a n : ℕ). part a n s) b.begins cut ∙ sym bytes.1 in
    let other : kind ≡ apc → ⊥ =
    λ e. let q : fields [] ≡ raw = sym (ap shape_of e) ∙ b.shape in let z : ◌≡◌ {A = ℕ} 0 1 = cc in omega arith in
    record {
      before = omega (arith, b.begins);
      whole =
          ap (worked_by crc) (item-named item kind b.same) ∙ worked-named crc kind item.body
          ∙ ap₂ (λ (t : Bool) (l : List ℕ). item_of kind (cond t (octets 4 crc) l)) (ne_eqb kind apc other) (sym there);
      long = ap length there;
      small = rw same at b.there.shaped;
    }

-- ---- all options

worked-by : (user : List ℕ) (item : Item) → worked_by (crc_of user) item ≡ worked user item
unfolding worked_by worked
worked-by user item = refl

options-wires : (user : List ℕ) (count : ℕ) (l : List ℕ) (items : List Item) (rest : List ℕ) → read_options count l ≡ got items rest
    → wires_read (crc_of user) count l ≡ wires (worked_all user items)
unfolding read_options wires_read wires worked_all
options-wires user zero l items rest e = let none : [] ≡ items = cc in ap (λ (is : List Item). wires (worked_all user is)) none
options-wires user (suc count) l items rest e =
    let n = then-got (read_option l) (λ i r. read_as (λ is. i ∷ is) (read_options count r)) e in
    let b = as-got (λ (is : List Item). n.0 ∷ is) (read_options count n.1) n.3 in
    ap (λ (t : Read Item). wire_read (crc_of user) t ++ wires_read (crc_of user) count (left_behind l t)) n.2
    ∙ ap₂ (λ (i : Item) (m : List ℕ). wire_of i ++ m) (worked-by user n.0) (options-wires user count n.1 b.0 rest b.1)
    ∙ ap (λ (x : List Item). wires (worked_all user x)) b.2

pub wires-listed : (user l : List ℕ) (items : List Item) → decoded_list l ≡ given items → wires_listed (crc_of user) l ≡ wires (worked_all user items)
unfolding decoded_list wires_listed option_limit
wires-listed user l items e =
    let n = then-got (read_number 33 l) read_options (end-got (and_then (read_number 33 l) read_options) e) in
    ap (wires_counted (crc_of user)) n.2 ∙ options-wires user n.0 n.1 items [] n.3

-- ---- sizes

worked-size : (user : List ℕ) (item : Item) → length (wire_of (worked user item)) ≡ option_size item
unfolding worked option_size body_on_wire
worked-size user item = go (eqb item.kind apc)
  where
    go : (t : Bool) → length (wire_of (cond t (item_of apc (octets 4 (crc_of user))) item)) ≡ whole_length (cond t crc_width (length item.body))
    go true = wire-length apc (octets 4 (crc_of user)) ∙ ap whole_length (length-octets 4 (crc_of user))
    go false = wire-length item.kind item.body

pub wires-size : (user : List ℕ) (items : List Item) → length (wires (worked_all user items)) ≡ wire_size items
unfolding wires worked_all wire_size
wires-size user [] = refl
wires-size user (item ∷ items) =
    length-append (wire_of (worked user item)) (wires (worked_all user items)) ∙ ap₂ ◌+◌ (worked-size user item) (wires-size user items)

-- ---- the body of an option with fields

pub field-none : (kind first second crc : ℕ) → (kind ≡ 2 → ⊥) → (kind ≡ 4 → ⊥) → (kind ≡ 5 → ⊥) → (kind ≡ 6 → ⊥) → (kind ≡ 7 → ⊥) → (kind ≡ 8 → ⊥)
    → field_body kind first second crc ≡ []
unfolding field_body
field-none kind first second crc n2 n4 n5 n6 n7 n8 =
    rw (ne_eqb kind apc n2)
    (shape-cases kind (λ shape. field_bytes (widths_of shape) first second ≡ []) (λ e. absurd (n2 e)) (λ e. absurd (n4 e)) (λ e. absurd (n5 e))
    (λ e. absurd (n6 e)) (λ e. absurd (n7 e)) (λ e. absurd (n8 e)) (λ g h. refl) refl)

pub field-token : (kind first second crc : ℕ) → 6 ≤ kind → kind < 8 → field_body kind first second crc ≡ octets 4 first
unfolding field_body
field-token kind first second crc h g = rw (ne_eqb kind apc (λ e. omega arith), shape-token kind h g)

two_fields : (v w first second : ℕ) → length (octets v first ++ octets w second) ≡ v + (w + 0)
two_fields v w first second =
    length-append (octets v first) (octets w second) ∙ omega (arith, length-octets v first, length-octets w second)

one_field : (v first : ℕ) → length (octets v first) ≡ v + 0
one_field v first = length-octets v first ∙ omega arith

pub field-length : (kind first second crc : ℕ) → length (field_body kind first second crc) ≡ fields_on_wire kind
unfolding field_body fields_on_wire total
field-length kind first second crc = go (eqb kind apc)
  where
    bytes : length (field_bytes (widths_of (shape_of kind)) first second) ≡ total (widths_of (shape_of kind))
    bytes =
        shape-cases kind (λ shape. length (field_bytes (widths_of shape) first second) ≡ total (widths_of shape)) (λ e. refl) (λ e. one_field 2 first)
        (λ e. two_fields 2 1 first second) (λ e. one_field 4 first) (λ e. one_field 4 first) (λ e. two_fields 4 4 first second) (λ g h. refl) refl

    go : (t : Bool) → length (cond t (octets 4 crc) (field_bytes (widths_of (shape_of kind)) first second)) ≡ cond t crc_width (total (widths_of (shape_of kind)))
    go true = length-octets 4 crc
    go false = bytes

-- what goes on the wire of an option with fields, and of one with a raw body
pub fields-wire : (crc : ℕ) {s : List ℕ} {from kind first second next : ℕ} → Octets s → FieldsAt s from kind first second next
    → wire_read crc (read_option (drop from s)) ≡ wire_of (item_of kind (field_body kind first second crc))
fields-wire crc h f = ap (wire_read crc) f.there.reads ∙ ap wire_of (fields-worked crc h f)

pub body-wire : (crc : ℕ) {s : List ℕ} {from kind start size next : ℕ} → BodyAt s from kind start size next
    → wire_read crc (read_option (drop from s)) ≡ wire_of (item_of kind (part start (next - start) s))
body-wire crc b = ap (wire_read crc) b.there.reads ∙ ap wire_of (body-worked crc b).whole

-- one option, and those behind it
pub turn : (crc left : ℕ) (l : List ℕ) → 0 < left
    → wires_read crc left l ≡ wire_read crc (read_option l) ++ wires_read crc (left - 1) (left_behind l (read_option l))
unfolding wires_read
turn crc zero l h = absurd (omega arith)
turn crc (suc left) l h =
    let one : left ≡ suc left - 1 = omega arith in
    ap (λ (n : ℕ). wire_read crc (read_option l) ++ wires_read crc n (left_behind l (read_option l))) one

pub turn-none : (crc left : ℕ) (l : List ℕ) → left ≡ 0 → wires_read crc left l ≡ []
unfolding wires_read
turn-none crc left l e = ap (λ (n : ℕ). wires_read crc n l) e

pub listed-counted : (crc : ℕ) {s : List ℕ} {count next : ℕ} → ValueAt 33 s 0 count next → wires_listed crc s ≡ wires_read crc count (drop next s)
unfolding wires_listed
listed-counted crc v = ap (wires_counted crc) v.reads

pub listed-uncounted : (crc : ℕ) (s : List ℕ) (n : ℕ) → read_number 33 s ≡ failed n → wires_listed crc s ≡ []
unfolding wires_listed
listed-uncounted crc s n e = ap (wires_counted crc) e

-- ---- a turn of the loop: what was laid, the option laid now, and those to come

module _ (crc left : ℕ) (l : List ℕ) {t : List ℕ} {at : ℕ} {done u : List ℕ} {end : ℕ} (whole : List ℕ) (some : 0 < left) (p : Laid t at done u end)
    (is : done ++ wires_read crc left l ≡ whole) (fits : at + length whole ≤ length t) where
  abbrev here : List ℕ
  here = wire_read crc (read_option l)

  abbrev later : List ℕ
  later = wires_read crc (left - 1) (left_behind l (read_option l))

  parts : done ++ (here ++ later) ≡ whole
  parts = ap (λ (x : List ℕ). done ++ x) (sym (turn crc left l some)) ∙ is

  room : at + length (done ++ here) ≤ length t
  room = omega (arith, fits, ap length parts, length-append done (here ++ later), length-append here later, length-append done here)

  pub turn-room : end + length here ≤ length u
  turn-room = behind-room here p room

  pub turn-laid : {v : List ℕ} {m : ℕ} → Laid u end here v m → Laid t at (done ++ here) v m
  turn-laid q = laid-append p q room

  pub turn-rest : (done ++ here) ++ later ≡ whole
  turn-rest = append_assoc done here later ∙ parts

-- ---- lists without an APC

worked-other : (crc : ℕ) (item : Item) → eqb item.kind apc ≡ false → worked_by crc item ≡ item
unfolding worked_by
worked-other crc item e = ap (λ (b : Bool). cond b (item_of apc (octets 4 crc)) item) e

-- the CRC does not matter there
pub no-apc : (crc other count : ℕ) (l : List ℕ) → apcs_read count l ≡ false → wires_read crc count l ≡ wires_read other count l
unfolding apcs_read wires_read
no-apc crc other zero l e = refl
no-apc crc other (suc count) l e = go (λ r q. no-apc crc other count r q) (read_option l) e
  where
    Later : Type 0
    Later = (r : List ℕ) → apcs_read count r ≡ false → wires_read crc count r ≡ wires_read other count r

    by : Later → (item : Item) (rest : List ℕ) (b : Bool) → eqb item.kind apc ≡ b → cond b true (apcs_read count rest) ≡ false
        → wire_of (worked_by crc item) ++ wires_read crc count rest ≡ wire_of (worked_by other item) ++ wires_read other count rest
    by later item rest true p q = absurd (let z : ◌≡◌ {A = ℕ} 0 1 = cc in omega arith)
    by later item rest false p q =
        ap₂ (λ (i : Item) (m : List ℕ). wire_of i ++ m) (worked-other crc item p ∙ sym (worked-other other item p)) (later rest q)

    go : Later → (t : Read Item) → cond (apc_read t) true (apcs_read count (left_behind l t)) ≡ false
        → wire_read crc t ++ wires_read crc count (left_behind l t) ≡ wire_read other t ++ wires_read other count (left_behind l t)
    go later (failed n) q = later l q
    go later (got item rest) q = by later item rest (eqb item.kind apc) refl q

pub apc-turn : (left : ℕ) (l : List ℕ) → 0 < left
    → apcs_read left l ≡ cond (apc_read (read_option l)) true (apcs_read (left - 1) (left_behind l (read_option l)))
unfolding apcs_read
apc-turn zero l h = absurd (omega arith)
apc-turn (suc left) l h =
    let one : left ≡ suc left - 1 = omega arith in
    ap (λ (n : ℕ). cond (apc_read (read_option l)) true (apcs_read n (left_behind l (read_option l)))) one

pub apc-none : (left : ℕ) (l : List ℕ) → left ≡ 0 → apcs_read left l ≡ false
unfolding apcs_read
apc-none left l e = ap (λ (n : ℕ). apcs_read n l) e

pub raw-other : (kind : ℕ) → shape_of kind ≡ raw → eqb kind apc ≡ false
unfolding shape_of
raw-other kind e =
    ne_eqb kind apc (λ p. let q : fields [] ≡ raw = sym (ap shape_of p) ∙ e in let z : ◌≡◌ {A = ℕ} 0 1 = cc in omega arith)
