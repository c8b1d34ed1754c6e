-- Known bytes of readers and writers.
mod Streams
