-- A value of include/wuraketozo.h tells the whole answer: whatever the crates below answer, the papers' answer can be read back from the value,
-- so no two of them have one. Each reading back is by the value's numbers, and each case computes. Assumes nothing.
use Rattle.std.proofs.Common.{Result, Ok, Err}
use Prim.Native.Nat.{ℕ}
use mathlib.Core.Path.{◌≡◌, refl, ap}
use mathlib.Core.Bool.{cond}
use mathlib.Core.List.{[], ◌∷◌}
use lib.Dec.{eqb}
use Rattle.wire_datagram.specs.declared.reading.Refusal as Unread
use Rattle.list_encoding.specs.Encoding as Encoding
use Rattle.list_options.specs.Listing as Transcribe
use Rattle.list_options.specs.declared.Listing as Transcribe'
use Rattle.number_varint.specs.declared.Full.{Full}
use Rattle.list_writer.specs.Answer.{written_answer}
use Rattle.list_writer.specs.declared.Refusal as Compose'
use Rattle.list_writer.specs.declared.Refusal.TheVariants.{Unreadable, Forbidden, TooLarge}
use Rattle.client_reassembly.specs.Answer.{Reply, refused, ready, stored, repeated, conflict, delivered, advanced, account, reply_of}
use Rattle.client_reassembly.specs.declared.Refusal as Reassembly'
use Rattle.client_reassembly.specs.declared.Refusal.TheVariants as No
use Rattle.client_reassembly.specs.declared.Answer as Reassembly
use Rattle.client_reassembly.specs.declared.Answer.TheVariants.{Reset, Stored, Repeated, Conflict, Delivered, Advanced, Account}
use Rattle.table_receiver.specs.Receive.{Fate, offered, fate_of, fate_in}
use Rattle.table_receiver.specs.declared.Received as Receiver
use Rattle.table_receiver.specs.declared.Received.TheVariants.{Datagram, Fragment as Offered}
use Rattle.host_values.specs.declared.Answer.{Answer}
use Rattle.host_values.specs.declared.Received.{Received}
use Rattle.host_values.specs.declared.Listing.{Listing}
use Rattle.host_values.specs.declared.Written.{Written}
use Rattle.host_values.specs.Lists.{host_listing, host_written}
use Rattle.host_values.specs.Answer.{host_answer, host_fate}
use Rattle.host_readings.proofs.Claims.{answer_from, reading-recovered}

-- ---- lists and payloads

abbrev pub listed_from : Listing → Encoding.Answer Transcribe.Listing
listed_from v = cond (eqb v.refusal 0) (Encoding.given (record { size = v.size; fill = v.fill })) (Encoding.refused v.refusal)

pub listing-recovered : (l : Result Transcribe'.Listing Full) → listed_from (host_listing (Transcribe.listed_answer l)) ≡ Transcribe.listed_answer l
listing-recovered (Ok l) = refl
listing-recovered (Err full) = refl

abbrev pub written_from : Written → Encoding.Answer ℕ
written_from v = cond (eqb v.refusal 0) (Encoding.given v.size) (Encoding.refused v.refusal)

pub written-recovered : (w : Result ℕ Compose'.Refusal) → written_from (host_written (written_answer w)) ≡ written_answer w
written-recovered (Ok size) = refl
written-recovered (Err Unreadable) = refl
written-recovered (Err Forbidden) = refl
written-recovered (Err TooLarge) = refl

-- ---- the table

abbrev pub reply_from : Answer → Reply
reply_from v =
    let f = v.figures in
    cond (eqb v.refusal 0)
    (cond (eqb v.outcome 1) ready
    (cond (eqb v.outcome 2) stored
    (cond (eqb v.outcome 3) repeated
    (cond (eqb v.outcome 4) conflict
    (cond (eqb v.outcome 5) (delivered v.length v.option_start.0)
    (cond (eqb v.outcome 6) advanced
    (account (f.offered ∷ f.held ∷ f.delivered ∷ f.expired ∷ f.conflicted ∷ f.repeated ∷ f.rejected ∷ []))))))))
    (refused v.refusal)

pub answer-recovered : (a : Result Reassembly.Answer Reassembly'.Refusal) → reply_from (host_answer (reply_of a)) ≡ reply_of a
answer-recovered (Err No.TableMisfit) = refl
answer-recovered (Err No.NoSuchClient) = refl
answer-recovered (Err No.UnsoundRecord) = refl
answer-recovered (Err No.OutTooShort) = refl
answer-recovered (Err No.EmptyFragment) = refl
answer-recovered (Err No.EndPastLimit) = refl
answer-recovered (Err No.OptionStartPastEnd) = refl
answer-recovered (Err No.TimeBeforeLast) = refl
answer-recovered (Err No.OfferedPastLimit) = refl
answer-recovered (Err No.NoFreeAssembly) = refl
answer-recovered (Err No.AssemblyFull) = refl
answer-recovered (Err No.PlanOutOfRange) = refl
answer-recovered (Ok Reset) = refl
answer-recovered (Ok Stored) = refl
answer-recovered (Ok Repeated) = refl
answer-recovered (Ok Conflict) = refl
answer-recovered (Ok (Delivered n r)) = refl
answer-recovered (Ok Advanced) = refl
answer-recovered (Ok (Account f)) = refl

-- ---- one call for each datagram

abbrev pub fate_from : Received → Fate
fate_from v = cond (eqb v.what 2) (offered (reply_from v.answer)) (fate_of (answer_from v.reading))

pub received-recovered : (r : Result Receiver.Received Unread.Refusal) → fate_from (host_fate (fate_in r)) ≡ fate_in r
received-recovered (Err refusal) = ap fate_of (reading-recovered (Err refusal))
received-recovered (Ok (Datagram r)) = ap fate_of (reading-recovered (Ok r))
received-recovered (Ok (Offered a)) = ap offered (answer-recovered a)
