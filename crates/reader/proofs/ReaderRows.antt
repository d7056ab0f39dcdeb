-- The P rows of the reader: computed.
use mathlib.Core.Path.{refl}
use Rattle.layout.specs.Masks.{mask_ok}
use Rattle.layout.specs.MixedMasks.{mixed_ok, reflector_width}
use Rattle.reader.specs.Endings.{part_missing}
use Rattle.reader.specs.Readings.{head_refusal, body_of, read_of}
use Rattle.reader.specs.Mixed.{mixed_head_refusal, mixed_body_of, read_mixed_of}
use Rattle.reader.specs.MixedStretches.{reflector_of}
use Rattle.reader.specs.Figures.{ReaderFigures}

pub reader_figures : ReaderFigures
unfolding mask_ok mixed_ok reflector_width part_missing head_refusal mixed_head_refusal body_of mixed_body_of read_of read_mixed_of reflector_of
reader_figures = refl
