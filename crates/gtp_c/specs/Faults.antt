-- What C is told of a fault, in numbers.
use Rattle.std.specs.Prelude.{ℕ, unwrap_or}
use Rattle.gtp_ie.specs.Codes.{number_of as element_number}
use Rattle.gtp_ie.specs.declared.fault.IeFault.{IeFault}
use Rattle.gtp_ie.specs.declared.fault.IeFault.TheVariants as elements
use Rattle.gtp_user.specs.declared.fault.UserFault.{UserFault}
use Rattle.gtp_user.specs.declared.fault.UserFault.TheVariants as user
use Rattle.gtp_v2.specs.declared.fault.V2Fault.{V2Fault}
use Rattle.gtp_v2.specs.declared.fault.V2Fault.TheVariants as control
use Rattle.gtp_c.specs.Common.{flag}
use Rattle.gtp_c.specs.declared.fault.Fault.{Fault}

-- nothing but a number
abbrev pub no_fault : ℕ → Fault
no_fault number =
    record { at = 0; stated = 0; held = 0; number = number; detail = 0; version = 0; message = 0; element = 0; instance = 0; conditional = 0 }

-- H7: the fault of an element, in a message of this type
abbrev pub of_element : ℕ → IeFault → Fault
of_element message fault = record (no_fault 7) { message = message; detail = element_number fault }

abbrev pub element_told : ℕ → IeFault → Fault
element_told message (elements.Truncated at) = record (of_element message (elements.Truncated at)) { at = at }
element_told message (elements.ShortValue kind instance at) = record (of_element message (elements.ShortValue kind instance at)) { element = kind; instance = instance; at = at }
element_told message (elements.BadValue kind instance at) = record (of_element message (elements.BadValue kind instance at)) { element = kind; instance = instance; at = at }
element_told message fault = of_element message fault

-- a fault of a datagram of the control plane: its number is the one after H
abbrev pub control_told : V2Fault → Fault
control_told (control.Short held) = record (no_fault 1) { held = held }
control_told (control.Version version) = record (no_fault 2) { version = version }
control_told (control.Length stated held) = record (no_fault 3) { stated = stated; held = held }
control_told (control.FlagT kind) = record (no_fault 4) { message = kind }
control_told (control.BadPiggyback at) = record (no_fault 5) { at = at }
control_told (control.Missing kind instance conditional group head) = record (no_fault 6) { at = unwrap_or group 0; message = head.kind; element = kind; instance = instance; conditional = flag conditional }
control_told (control.Element fault head) = element_told head.kind fault
control_told control.Memory = no_fault 8
control_told control.TooLong = no_fault 9

-- a fault of a datagram of the user plane: its number is the one after U
abbrev pub user_told : UserFault → Fault
user_told (user.Short held) = record (no_fault 1) { held = held }
user_told (user.Version version) = record (no_fault 2) { version = version }
user_told user.Protocol = no_fault 3
user_told (user.Length stated held) = record (no_fault 4) { stated = stated; held = held }
user_told (user.ExtensionZero at) = record (no_fault 5) { at = at }
user_told (user.ExtensionPast at) = record (no_fault 6) { at = at }
user_told (user.ExtensionNeeded kind at) = record (no_fault 7) { at = at; element = kind }
user_told (user.Missing kind) = record (no_fault 8) { element = kind }
user_told (user.Element at) = record (no_fault 9) { at = at }
user_told user.Memory = no_fault 10
user_told user.TooLong = no_fault 11
