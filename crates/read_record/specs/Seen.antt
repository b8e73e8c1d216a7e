-- The key that a key in place is.
use Rattle.meaning.specs.Keys as keys
use Rattle.meaning.specs.Records.{key_in}
use Rattle.read_record.specs.declared.key.Key.{Key}

abbrev pub seen : Key → keys.Key
seen key = key_in key.body.now
