-- Each filter keeps the law of filters.
use Rattle.network.specs.Laws.{LawfulFilter}
use Rattle.network.proofs.FilterLaws.{nfc0_law, nfc1_law, nfc2_law, nfc3_law, nfc4_law, nfc5_law}
use Rattle.filters.specs.Nfcs.{filter_of}
use Rattle.filters.specs.declared.nfc.Nfc.{Nfc}
use Rattle.filters.specs.declared.nfc.Nfc.TheVariants.{Nfc0, Nfc1, Nfc2, Nfc3, Nfc4, Nfc5}

pub filter_law : (f : Nfc) → LawfulFilter (filter_of f)
filter_law Nfc0 = nfc0_law
filter_law Nfc1 = nfc1_law
filter_law Nfc2 = nfc2_law
filter_law Nfc3 = nfc3_law
filter_law Nfc4 = nfc4_law
filter_law Nfc5 = nfc5_law
