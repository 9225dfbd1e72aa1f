-- What a catalogue's type says of its areas.
use Rattle.index.specs.declared.Catalogue as formed
use Rattle.index.specs.Views.{counts_of, bytes_of}
use Rattle.index.specs.Catalogued.{Catalogued}

pub catalogued : (c : formed.Catalogue) → Catalogued (counts_of c) c.index.areas.marks.now c.index.areas.unions.now (bytes_of c)
catalogued c = record { kept = c.indexed; formed = c.formed }
