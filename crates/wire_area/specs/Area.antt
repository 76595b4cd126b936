-- The walk over the option list of a surplus area, where FRAG may lead (document 01, "Walking the list"; RFC 9868 section 11.4).
use Rattle.std.specs.Prelude.{Bool, true, false, cond, ◌&&◌, Option, Some, None, Result, Ok, Err, List, ℕ, ◌+◌, ◌-◌, eqb, leb, length, get_or, drop}
use Rattle.number_octets.specs.Octets.{number, part}
use Rattle.number_offsets.specs.Offsets.{udp_header, place_of}
use Rattle.number_offsets.specs.declared.PacketOffset.{PacketOffset}
use Rattle.number_offsets.specs.declared.OriginalOffset.{OriginalOffset}
use Rattle.wire_nops.specs.Nops.{nop_limit, nops_of, is_padding}
use Rattle.wire_nops.specs.declared.Strictness.{Strictness}
use Rattle.wire_step.specs.Kinds.{eol, frag, last_frag_size}
use Rattle.wire_step.specs.Step.{step_of}
use Rattle.wire_step.specs.declared.Step.{Step}
use Rattle.wire_step.specs.declared.Step.TheVariants.{End, Eol, Nop, Found, Malformed as Unsound, Outlawed}
use Rattle.wire_options.specs.Walk.{Located, Walked, listed, faulty, items_in, offset_before, option_limit, apcs_of}
use Rattle.wire_options.specs.Strict.{walk_by}
use Rattle.wire_options.specs.declared.walk.Fault.{Fault}
use Rattle.wire_options.specs.declared.walk.Fault.TheVariants.{Malformed, FragData, Padded}
use Rattle.wire_options.specs.declared.walk.Met.{Met}
use Rattle.wire_area.specs.declared.Fields.{Fields}
use Rattle.wire_area.specs.declared.Fragment.{Fragment}
use Rattle.wire_area.specs.declared.Area.{Area}
use Rattle.wire_area.specs.declared.Area.TheVariants.{Listed as Options, Piece}

-- The fields of a FRAG of `size` bytes at the front of a list: Frag. Start, Identification, Frag. Offset and, in the last piece, the
-- reassembled option start. Where the piece is not the last, that start stands at the origin.
unfoldable pub fields_of : ℕ → List ℕ → Fields
fields_of size l = record {
  start = record { 0 = number (part 2 2 l) };
  identification = number (part 4 4 l);
  offset = number (part 8 2 l);
  last = eqb size last_frag_size;
  option_start = cond (eqb size last_frag_size) (number (part 10 2 l)) udp_header;
}

-- a value before the origin of user data is malformed
abbrev pub placed_at : Fields → ℕ → Option OriginalOffset → Option OriginalOffset → Option Fragment
placed_at fields end None r = None
placed_at fields end (Some place) None = None
placed_at fields end (Some place) (Some r) = Some (record {
  identification = fields.identification;
  place = place;
  start = fields.start;
  end = record { 0 = end };
  last = fields.last;
  option_start = r;
})

-- Frag. Start counts from the UDP header, `base` bytes before the list. It may not lie before FRAG's end, `behind` bytes into the list,
-- nor past the payload, which ends with the list.
unfoldable pub fragment_of : Fields → ℕ → ℕ → ℕ → Option Fragment
fragment_of fields base behind size =
    cond (leb (base + behind) fields.start.0 && leb fields.start.0 (base + size))
    (placed_at fields (base + size) (place_of fields.offset) (place_of fields.option_start))
    None

-- what the walk of an area's list comes to: options and fill, a fragment, or the fault met first and where
pub data AreaWalk : Type 0 where
  plain : List Located → ℕ → AreaWalk
  piece : Fragment → AreaWalk
  fault : Fault → PacketOffset → AreaWalk

-- a list that ends at the packet offset `end`
abbrev pub plainly : ℕ → Walked → AreaWalk
plainly end (listed options fill) = plain options fill
plainly end (faulty f remains) = fault f (offset_before end remains)

-- other options on a piece are walked for faults and then dropped; their list ends at Frag. Start
abbrev pub piece_with : Fragment → Walked → AreaWalk
piece_with f (listed options fill) = piece f
piece_with f (faulty x remains) = fault x (offset_before f.start.0 remains)

-- what is walked behind FRAG, which ends `behind` bytes into the list: "for such a datagram the list ends at Frag. Start"
abbrev pub up_to_start : Fragment → ℕ → ℕ → List ℕ → List ℕ
up_to_start f base behind l = part behind (f.start.0 - (base + behind)) l

-- the packet offset `n` bytes into a list that starts at the offset `base`
abbrev pub offset_in : ℕ → ℕ → PacketOffset
offset_in base n = record { 0 = base + n }

-- With user data a FRAG that passes its tests is "fragdata" at once. Else the list is walked up to Frag. Start, its NOPs counted anew; FRAG counts
-- as one option. FRAG stands `nops` bytes into the list, and its own faults are met there.
abbrev pub behind_frag : Strictness → Bool → List ℕ → ℕ → ℕ → ℕ → Option Fragment → AreaWalk
behind_frag how empty l base nops behind None = fault Malformed (offset_in base nops)
behind_frag how false l base nops behind (Some f) = fault FragData (offset_in base nops)
behind_frag how true l base nops behind (Some f) =
    piece_with f (walk_by how (option_limit - 1) 0 (up_to_start f base behind l))

-- a list whose first option, behind `nops` NOPs, has the kind of FRAG
abbrev pub led_by : Strictness → Bool → List ℕ → ℕ → ℕ → Step → AreaWalk
led_by how empty l base nops (Found kind header size) =
    behind_frag how empty l base nops (nops + size) (fragment_of (fields_of size (drop nops l)) base (nops + size) (length l))
led_by how empty l base nops End = fault Malformed (offset_in base nops)
led_by how empty l base nops Eol = fault Malformed (offset_in base nops)
led_by how empty l base nops Nop = fault Malformed (offset_in base nops)
led_by how empty l base nops Unsound = fault Malformed (offset_in base nops)
led_by how empty l base nops Outlawed = fault Malformed (offset_in base nops)

-- FRAG must be the first option that is no NOP: anywhere else the walk meets it as malformed.
abbrev pub behind_nops : Strictness → Bool → ℕ → List ℕ → AreaWalk
behind_nops how empty base l =
    cond (eqb (get_or l (nops_of l) eol) frag)
    (led_by how empty l base (nops_of l) (step_of (drop (nops_of l) l)))
    (plainly (base + length l) (walk_by how option_limit 0 l))

-- The walk of the list that starts at packet offset `base`, as the host chose it; `empty` says that there is no user data. The NOPs at the front are
-- met before anything else, FRAG too; padding is met at the one behind as many as there may be.
unfoldable pub area_of : Strictness → Bool → ℕ → List ℕ → AreaWalk
area_of how empty base l = cond (is_padding how (nops_of l)) (fault Padded (offset_in base nop_limit)) (behind_nops how empty base l)

-- what of it the answer tells
abbrev pub area_answer : AreaWalk → Result Area Met
area_answer (plain options fill) = Ok (Options (record { count = length options; fill = fill; apcs = apcs_of (items_in options) }))
area_answer (piece f) = Ok (Piece f)
area_answer (fault f at) = Err (record { fault = f; at = at })
