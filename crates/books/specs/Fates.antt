-- What became of a number's pad.
use Rattle.std.specs.Prelude.{Bool, true, false}
use Rattle.books.specs.declared.fate.Fate.{Fate}
use Rattle.books.specs.declared.fate.Fate.TheVariants.{Unspent, Sealed, Struck}

-- whether two fates are the same
abbrev pub fate_is : Fate → Fate → Bool
fate_is Unspent Unspent = true
fate_is Unspent Sealed = false
fate_is Unspent Struck = false
fate_is Sealed Unspent = false
fate_is Sealed Sealed = true
fate_is Sealed Struck = false
fate_is Struck Unspent = false
fate_is Struck Sealed = false
fate_is Struck Struck = true
