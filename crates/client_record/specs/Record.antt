-- A fresh record, and document 01's record test (refusal 22): one named test for each clause of its sentence, in the sentence's order.
use Rattle.std.specs.Prelude.{ℕ, zero, suc, ◌+◌, Bool, true, false, not, ◌&&◌, ◌||◌, cond, List, [], ◌∷◌, take, drop, replicate, eqb, leb, ltb}
use Rattle.client_record.specs.declared.Fragment.{Fragment}
use Rattle.client_record.specs.declared.Flow.{Flow}
use Rattle.client_record.specs.declared.Assembly.{Assembly}
use Rattle.client_record.specs.declared.Client.{Client}
use Rattle.client_record.specs.Limits.{datagram_limit, fragment_limit, assembly_limit, address_size, lifetime, offered_limit}
use Rattle.client_record.specs.Lists.{same_bytes, all, any, pairs, sum}

-- ---- a fresh record of a plan: last time 0, no assembly, all figures 0

unfoldable pub fresh_fragment : Fragment
fresh_fragment = record { offset = 0; length = 0; option_start = 0; last = 0 }

unfoldable pub fresh_flow : Flow
fresh_flow = record { source = replicate address_size 0; destination = replicate address_size 0; source_port = 0; destination_port = 0 }

unfoldable pub fresh_assembly : Assembly
fresh_assembly = record { flow = fresh_flow; identification = 0; opened = 0; count = 0; fragments = replicate fragment_limit fresh_fragment }

unfoldable pub fresh_client : ℕ → Client
fresh_client plan = record {
  plan = plan;
  time = 0;
  offered = 0;
  held = 0;
  delivered = 0;
  expired = 0;
  conflicted = 0;
  repeated = 0;
  rejected = 0;
  assemblies = replicate assembly_limit fresh_assembly;
}

-- a record of zeros, which has no plan: what stands past the end of a slice of records
unfoldable pub blank_client : Client
blank_client = fresh_client 0

-- ---- one fragment, and two

-- the last mark: 0 is not last, any other number is
unfoldable pub is_last : Fragment → Bool
is_last f = not (eqb f.last 0)

-- the mark of a fragment that is stored
abbrev pub mark_of : Bool → ℕ
mark_of true = 1
mark_of false = 0

-- the first place behind it
unfoldable pub end : Fragment → ℕ
end f = f.offset + f.length

unfoldable pub non_empty : Fragment → Bool
non_empty f = not (eqb f.length 0)

unfoldable pub fits : Fragment → Bool
fits f = leb (end f) datagram_limit

-- the place i lies in it
unfoldable pub covers : ℕ → Fragment → Bool
covers i f = leb f.offset i && ltb i (end f)

unfoldable pub overlaps : Fragment → Fragment → Bool
overlaps f g = ltb f.offset (end g) && ltb g.offset (end f)

unfoldable pub both_last : Fragment → Fragment → Bool
both_last f g = is_last f && is_last g

-- f ends past the end that g, the last one, makes known
unfoldable pub outruns : Fragment → Fragment → Bool
outruns f g = is_last g && ltb (end g) (end f)

-- a fragment and a held one contradict each other: they overlap, both are last, or one ends past the end that the other makes known
unfoldable pub conflicts : Fragment → Fragment → Bool
conflicts f g = overlaps f g || (both_last f g || (outruns f g || outruns g f))

-- r is not over the end; of a fragment that is not last, r is ignored
unfoldable pub starts_options_inside : Fragment → Bool
starts_options_inside f = not (is_last f) || leb f.option_start (end f)

-- what the record test asks of a held fragment by itself
unfoldable pub sound_fragment : Fragment → Bool
sound_fragment f = non_empty f && (fits f && starts_options_inside f)

unfoldable pub is_fresh_fragment : Fragment → Bool
is_fresh_fragment f = eqb f.offset 0 && (eqb f.length 0 && (eqb f.option_start 0 && eqb f.last 0))

-- ---- the fragments of one assembly

-- without overlap, at most one last, none past its end: no fragment conflicts with an earlier one
unfoldable pub compatible : List Fragment → Bool
compatible fs = pairs (λ f g. not (conflicts f g)) fs

-- every place before n lies in some fragment
unfoldable pub covered_to : ℕ → List Fragment → Bool
covered_to zero fs = true
covered_to (suc n) fs = covered_to n fs && any (covers n) fs

-- the fragment that is marked last; a fresh one, which is not, if there is none
unfoldable pub last_of : List Fragment → Fragment
last_of [] = fresh_fragment
last_of (f ∷ fs) = cond (is_last f) f (last_of fs)

-- the last one is held, and with it 0 to T, its end, is covered
unfoldable pub whole : List Fragment → Bool
whole fs = is_last (last_of fs) && covered_to (end (last_of fs)) fs

-- ---- one assembly

-- live means that it has fragments
unfoldable pub live : Assembly → Bool
live a = not (eqb a.count 0)

-- the fragments that it holds, and the slots behind them
unfoldable pub held_fragments : Assembly → List Fragment
held_fragments a = take a.count a.fragments

unfoldable pub spare_slots : Assembly → List Fragment
spare_slots a = drop a.count a.fragments

unfoldable pub bytes_held : Assembly → ℕ
bytes_held a = sum (λ f. f.length) (held_fragments a)

unfoldable pub same_flow : Flow → Flow → Bool
same_flow x y =
    same_bytes x.source y.source
    && (same_bytes x.destination y.destination
    && (eqb x.source_port y.source_port && eqb x.destination_port y.destination_port))

-- the key is flow and identification
unfoldable pub has_key : Flow → ℕ → Assembly → Bool
has_key flow id a = same_flow flow a.flow && eqb id a.identification

unfoldable pub is_fresh_assembly : Assembly → Bool
is_fresh_assembly a =
    same_flow a.flow fresh_flow
    && (eqb a.identification 0 && (eqb a.opened 0 && (eqb a.count 0 && all is_fresh_fragment a.fragments)))

-- opened at or before the time t, and less than the lifetime before it
unfoldable pub opened_within : ℕ → Assembly → Bool
opened_within t a = leb a.opened t && ltb t (a.opened + lifetime)

-- what the record test asks of a live assembly at the time t
unfoldable pub sound_live : ℕ → Assembly → Bool
sound_live t a =
    leb a.count fragment_limit
    && (all sound_fragment (held_fragments a)
    && (compatible (held_fragments a)
    && (not (whole (held_fragments a)) && (opened_within t a && all is_fresh_fragment (spare_slots a)))))

unfoldable pub sound_assembly : ℕ → Assembly → Bool
sound_assembly t a = cond (live a) (sound_live t a) (is_fresh_assembly a)

-- ---- the record

unfoldable pub same_live_key : Assembly → Assembly → Bool
same_live_key a b = live a && (live b && has_key a.flow a.identification b)

-- live keys differ
unfoldable pub keys_differ : List Assembly → Bool
keys_differ xs = pairs (λ a b. not (same_live_key a b)) xs

-- held is the live fragments' bytes
unfoldable pub held_right : Client → Bool
held_right c = eqb c.held (sum bytes_held c.assemblies)

-- the six figures
unfoldable pub figure_sum : Client → ℕ
figure_sum c = c.held + c.delivered + c.expired + c.conflicted + c.repeated + c.rejected

-- what the figures sum to is offered, at most the limit
unfoldable pub sums_to : ℕ → ℕ → Bool
sums_to offered total = eqb total offered && leb offered offered_limit

unfoldable pub balanced : Client → Bool
balanced c = sums_to c.offered (figure_sum c)

-- how many are live
unfoldable pub live_count : List Assembly → ℕ
live_count xs = sum (λ a. cond (live a) 1 0) xs

-- no live place past the plan (document 02, R-8)
unfoldable pub within_plan : Client → Bool
within_plan c = all (λ a. not (live a)) (drop c.plan c.assemblies)

-- the record test
unfoldable pub sound_record : Client → Bool
sound_record c =
    all (sound_assembly c.time) c.assemblies
    && (keys_differ c.assemblies && (held_right c && (balanced c && within_plan c)))
