-- What the tables of an image stand for. Assumes nothing.
use Rattle.paper.specs.Image.{Set}
use Rattle.index.specs.Index.{set_in}
use Rattle.rows.specs.declared.Tables.{Tables}

-- the set of an image with its tables
abbrev pub set_of : Tables → Set
set_of t = set_in t.image.now
