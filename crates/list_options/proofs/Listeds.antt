-- A listing is the count and the options behind it, and a walk that is answered as sound is one that lists its options.
-- Assumes nothing.
use mathlib.Core.Path.{◌≡◌, sym, ap, ap₂, ◌∙◌}
use mathlib.Core.List.{List, [], ◌++◌}
use Prim.Native.Nat.{ℕ, ◌≤◌, ◌<◌}
use native.Mathlib.Nat.{zero-add}
use native.Mathlib.Omega.{arith}
use borrow.Author.Tests.{le-leb, lt-leb}
use lib.ListN.{length, drop}
use Rattle.std.proofs.Common.{Result, Ok, Err}
use Rattle.number_octets.specs.Octets.{Octets, overlay}
use Rattle.number_varint.specs.SevenBit.{encoded}
use Rattle.number_varint.specs.declared.Full.{Full}
use Rattle.wire_options.specs.Walk.{Walked, listed, faulty, walk_answer, walk_from, option_limit, items_of}
use Rattle.wire_options.specs.declared.walk.Listed.{Listed}
use Rattle.wire_options.specs.declared.walk.Met.{Met}
use Rattle.list_encoding.specs.Encoding.{given, encoded_options, encoded_list, decoded_list}
use Rattle.list_options.specs.Listing.{unworked_all, fill_of, Sound, listing, room_for, ListedInto}
use Rattle.list_options.specs.declared.Listing.{Listing}
use Rattle.list_encoding.proofs.Laws.{decode-encode}
use Rattle.list_options.proofs.Listings.{length-unworked, length-items, walk-valid}

pub listing-code : (walk : Walked) → listing walk ≡ encoded (length (items_of walk)) ++ encoded_options (unworked_all (items_of walk))
unfolding listing encoded_list
listing-code walk =
    ap (λ (n : ℕ). encoded n ++ encoded_options (unworked_all (items_of walk))) (length-unworked (items_of walk))

pub listed-full : (walk : Walked) (buffer : List ℕ) (full : Full) → length buffer < length (listing walk) → ListedInto walk buffer (Err full) buffer
unfolding room_for
listed-full walk buffer full h = record { answered = rw (lt-leb _ _ h); written = rw (lt-leb _ _ h) }

pub listed-written : (walk : Walked) (buffer : List ℕ) (size fill : ℕ) (left : List ℕ) → length (listing walk) ≤ length buffer → size ≡ length (listing walk)
    → fill ≡ fill_of walk → left ≡ overlay buffer 0 (listing walk) → ListedInto walk buffer (Ok (record { size = size; fill = fill })) left
unfolding room_for
listed-written walk buffer size fill left h s f l =
    record {
      answered = rw (le-leb _ _ h) (ap₂ (λ (n k : ℕ). given (record { size = n; fill = k })) s f);
      written =
          rw (le-leb _ _ h) (l ∙ ap (λ (n : ℕ). listing walk ++ drop n buffer) (zero-add (length (listing walk))));
    }

-- ---- what `walk_list` tells

pub answer-sound : (end : ℕ) (walk : Walked) (told : Listed) → walk_answer end walk ≡ Ok told
    → Sound walk × (told.count ≡ length (items_of walk)) × (told.fill ≡ fill_of walk)
answer-sound end (faulty f n) told e = absurd (let z : ◌≡◌ {A = ℕ} 0 1 = cc in omega arith)
answer-sound end (listed options n) told e =
    let many : length options ≡ told.count = cc in
    let same : n ≡ told.fill = cc in
    (tt, sym many ∙ sym (length-items options), sym same)

-- the listing of a faulty walk is that of no option
pub answer-faulty : (end : ℕ) (walk : Walked) (met : Met) (buffer : List ℕ) (answer : Result Listing Full) (left : List ℕ)
    → walk_answer end walk ≡ Err met
    → ListedInto (listed [] 0) buffer answer left → ListedInto walk buffer answer left
unfolding listing room_for
answer-faulty end (listed options n) met buffer answer left e r = absurd (let z : ◌≡◌ {A = ℕ} 0 1 = cc in omega arith)
answer-faulty end (faulty f n) met buffer answer left e r = record { answered = r.answered; written = r.written }

-- ---- what was listed can be read

pub listing-decodes : (l : List ℕ) → Octets l → decoded_list (listing (walk_from option_limit 0 l)) ≡ given (unworked_all (items_of (walk_from option_limit 0 l)))
unfolding listing
listing-decodes l b = decode-encode (unworked_all (items_of (walk_from option_limit 0 l))) (walk-valid l b)
