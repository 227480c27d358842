-- Messages worked out by hand from tables 8.1 to 8.9 and 9.1, and the edges of reading: each is what the definition computes.
use Prim.Native.Nat.{ℕ}
use mathlib.Core.Path.{◌≡◌, refl}
use mathlib.Core.List.{[], ◌∷◌}
use mathlib.Core.Bool.{true, false}
use lib.ListN.{replicate}
use Rattle.codes.specs.declared.protocol.Protocol.TheVariants.{Broadcast, Group}
use Rattle.codes.specs.Protocol.{discriminator}
use Rattle.octets.specs.declared.Run.{Run}
use Rattle.element.specs.Elements.{within, next_element, element_among, element_from}
use Rattle.element.specs.Counted.{counted_at}
use Rattle.octets.specs.declared.Reference.{Reference}
use Rattle.std.specs.Prelude.{Some, None, Ok, Err}
use Rattle.message.specs.declared.Unread.TheVariants.{TooLong, Unreadable}
use Rattle.message.specs.declared.Message.TheVariants.{
  Connect,
  GetStatus,
  ImmediateSetup,
  SetParameter,
  Setup,
  Status,
  Termination,
  TerminationReject,
  TerminationRequest,
}
use Rattle.message.specs.declared.Fault.TheVariants.{
  TooShort,
  Discriminator,
  UnknownType,
  CutShort,
  WrongLength,
  MustBeKnown,
}
use Rattle.message.specs.Reading.{
  whole_of,
  identity_behind,
  half_at,
  connect_of,
  get_status_of,
  immediate_identity_of,
  immediate_setup_of,
  set_parameter_of,
  setup_of,
  status_of,
  termination_of,
  termination_reject_of,
  termination_request_of,
  body_of,
  read_message,
}

abbrev reference : Reference
reference = record { first = 1; second = 2; third = 3; fourth = 4 }

abbrev run : ℕ → ℕ → Run
run start count = record { start = start; count = count }

-- One message of each kind.
pub kinds : (read_message Broadcast (0x11 ∷ 0x33 ∷ 1 ∷ 2 ∷ 3 ∷ 4 ∷ 0x01 ∷ []) ≡ Ok (record { flag = false; value = 1; message = Connect reference 1 }))
    × (read_message Broadcast (0x91 ∷ 0x39 ∷ 0x17 ∷ 2 ∷ 0xF4 ∷ 0x21 ∷ []) ≡ Ok (record { flag = true; value = 1; message = GetStatus (Some (run 4 2)) }))
    × (read_message Broadcast (0xE1 ∷ 0x31 ∷ 0x50 ∷ 3 ∷ 0x33 ∷ 0x19 ∷ 0xA2 ∷ 1 ∷ 0xF4 ∷ 1 ∷ 2 ∷ 3 ∷ 4 ∷ [])
    ≡ Ok (record { flag = true; value = 6; message = ImmediateSetup 5 (record { first = 0x33; second = 0x19; third = 0xA2 }) (run 8 1) reference }))
    × (read_message Broadcast (0x01 ∷ 0x3A ∷ 0x0D ∷ []) ≡ Ok (record { flag = false; value = 0; message = SetParameter 13 }))
    × (read_message Broadcast (0x01 ∷ 0x32 ∷ 1 ∷ 2 ∷ 3 ∷ 4 ∷ []) ≡ Ok (record { flag = false; value = 0; message = Setup reference }))
    × (read_message Broadcast (0x81 ∷ 0x38 ∷ 1 ∷ 0x9E ∷ 0xA2 ∷ 0xBF ∷ []) ≡ Ok (record { flag = true; value = 0; message = Status (run 3 1) (Some 2) (Some 15) }))
    × (read_message Broadcast (0x71 ∷ 0x34 ∷ 1 ∷ 0x90 ∷ []) ≡ Ok (record { flag = false; value = 7; message = Termination (run 3 1) }))
    × (read_message Broadcast (0x21 ∷ 0x36 ∷ 1 ∷ 0x98 ∷ []) ≡ Ok (record { flag = false; value = 2; message = TerminationReject (run 3 1) }))
    × (read_message Broadcast (0x31 ∷ 0x35 ∷ 1 ∷ 2 ∷ 3 ∷ 4 ∷ []) ≡ Ok (record { flag = false; value = 3; message = TerminationRequest reference }))
unfolding
    read_message
    discriminator
    body_of
    connect_of
    get_status_of
    immediate_setup_of
    immediate_identity_of
    set_parameter_of
    setup_of
    status_of
    termination_of
    termination_reject_of
    termination_request_of
    whole_of
    identity_behind
    half_at
    counted_at
    element_from
    element_among
    next_element
    within
kinds = (refl, refl, refl, refl, refl, refl, refl, refl, refl)

-- Both sides of what reading draws.
pub edges : (read_message Broadcast (1 ∷ []) ≡ Err (Unreadable TooShort))
    × (read_message Broadcast (2 ∷ 0x39 ∷ []) ≡ Err (Unreadable Discriminator))
    × (read_message Broadcast (1 ∷ 0x37 ∷ []) ≡ Err (Unreadable UnknownType))
    × (read_message Broadcast (1 ∷ 0xB9 ∷ []) ≡ Err (Unreadable UnknownType))
    × (read_message Broadcast (1 ∷ 0x79 ∷ []) ≡ Ok (record { flag = false; value = 0; message = GetStatus None }))
    × (read_message Broadcast (1 ∷ 0x32 ∷ 1 ∷ 2 ∷ 3 ∷ []) ≡ Err (Unreadable CutShort))
    × (read_message Broadcast (1 ∷ 0x34 ∷ 0 ∷ []) ≡ Err (Unreadable (WrongLength 2)))
    × (read_message Broadcast (1 ∷ 0x39 ∷ 0x17 ∷ 1 ∷ 7 ∷ 5 ∷ []) ≡ Err (Unreadable (MustBeKnown 5 5)))
    × (read_message Broadcast (1 ∷ 0x39 ∷ 5 ∷ []) ≡ Err (Unreadable (MustBeKnown 2 5)))
    × (read_message Broadcast (1 ∷ 0x39 ∷ 0x17 ∷ []) ≡ Ok (record { flag = false; value = 0; message = GetStatus None }))
    × (read_message Broadcast (1 ∷ 0x39 ∷ 0x20 ∷ 0xFF ∷ 5 ∷ []) ≡ Ok (record { flag = false; value = 0; message = GetStatus None }))
    × (read_message Broadcast (1 ∷ 0x39 ∷ 0x17 ∷ 0 ∷ 0x17 ∷ 1 ∷ 7 ∷ []) ≡ Ok (record { flag = false; value = 0; message = GetStatus None }))
    × (read_message Broadcast (1 ∷ 0x38 ∷ 1 ∷ 0x9E ∷ 0xB3 ∷ 0xA2 ∷ 0xA4 ∷ []) ≡ Ok (record { flag = false; value = 0; message = Status (run 3 1) (Some 2) (Some 3) }))
    × (read_message Broadcast (1 ∷ 0x39 ∷ replicate 249 0x80) ≡ Ok (record { flag = false; value = 0; message = GetStatus None }))
    × (read_message Broadcast (1 ∷ 0x39 ∷ replicate 250 0x80) ≡ Err TooLong)
unfolding
    read_message
    discriminator
    body_of
    get_status_of
    setup_of
    status_of
    termination_of
    whole_of
    identity_behind
    half_at
    counted_at
    element_from
    element_among
    next_element
    within
edges = (refl, refl, refl, refl, refl, refl, refl, refl, refl, refl, refl, refl, refl, refl, refl)

-- Group calls: the other discriminator, and a TERMINATION REJECT of exactly four octets of cause, with elements from octet 7 on.
pub group : (read_message Group (0x10 ∷ 0x33 ∷ 1 ∷ 2 ∷ 3 ∷ 4 ∷ 0x01 ∷ []) ≡ Ok (record { flag = false; value = 1; message = Connect reference 1 }))
    × (read_message Group (0x11 ∷ 0x33 ∷ 1 ∷ 2 ∷ 3 ∷ 4 ∷ 0x01 ∷ []) ≡ Err (Unreadable Discriminator))
    × (read_message Broadcast (0x10 ∷ 0x33 ∷ 1 ∷ 2 ∷ 3 ∷ 4 ∷ 0x01 ∷ []) ≡ Err (Unreadable Discriminator))
    × (read_message Group (0x70 ∷ 0x34 ∷ 1 ∷ 0x90 ∷ []) ≡ Ok (record { flag = false; value = 7; message = Termination (run 3 1) }))
    × (read_message Group (0x20 ∷ 0x36 ∷ 0x98 ∷ 0 ∷ 0 ∷ []) ≡ Err (Unreadable CutShort))
    × (read_message Group (0x20 ∷ 0x36 ∷ 0x98 ∷ 0 ∷ 0 ∷ 0 ∷ []) ≡ Ok (record { flag = false; value = 2; message = TerminationReject (run 2 4) }))
    × (read_message Group (0x20 ∷ 0x36 ∷ 1 ∷ 0x98 ∷ 0 ∷ 0 ∷ 0x80 ∷ []) ≡ Ok (record { flag = false; value = 2; message = TerminationReject (run 2 4) }))
    × (read_message Group (0x20 ∷ 0x36 ∷ 1 ∷ 0x98 ∷ 0 ∷ 0 ∷ 0x05 ∷ []) ≡ Err (Unreadable (MustBeKnown 6 5)))
unfolding
    read_message
    discriminator
    body_of
    connect_of
    termination_of
    termination_reject_of
    whole_of
    counted_at
    element_from
    element_among
    next_element
    within
group = (refl, refl, refl, refl, refl, refl, refl, refl)
